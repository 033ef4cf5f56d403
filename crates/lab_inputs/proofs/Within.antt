-- What the files of a command hold keeps the limits of films and networks, with one network for each that the words name; and a setup
-- that fits is a setup for it.
use Rattle.std.proofs.Common.{◌≡◌, ◌∙◌, ℕ, ◌+◌, ◌≤◌, ◌++◌, ◌∷◌, [], List, Option, Some, None, Ok, length, ap, sym, refl, subst, arith}
use Rattle.lab_io.specs.Sink.{Text}
use Rattle.lab_model.specs.Film.{Film}
use Rattle.lab_model.specs.Steps.{◌>>=◌}
use Rattle.lab_model.proofs.Steps.{map_ok-ok, then_ok}
use Rattle.lab_words.specs.declared.Verb.{Verb}
use Rattle.lab_words.specs.declared.Verb.TheVariants as verb
use Rattle.lab_words.specs.Command.{CommandWords}
use Rattle.lab_words.specs.Limits.{AreCounted, IsWithinLimits}
use Rattle.manifest_reader.specs.Manifest.{manifest_of}
use Rattle.manifest_reader.proofs.Accepted.{manifest-limits}
use Rattle.lab_inputs.specs.declared.role.Role.{Role}
use Rattle.lab_inputs.specs.declared.role.Role.TheVariants as role
use Rattle.lab_inputs.specs.declared.stop.Setting.{Setting}
use Rattle.lab_inputs.specs.Contents.{ContentValues, film_alone}
use Rattle.lab_inputs.specs.Files.{Files, at_role, bytes_of, contents_from, film_in, read_as, with_file, with_files}
use Rattle.lab_inputs.specs.Inputs.{InputValues, contents_of, inputs_of, inputs_on}
use Rattle.lab_inputs.specs.Roles.{NamedFile, later_files, role_row}
use Rattle.lab_inputs.specs.Settings.{Fits, misfit, ready_of, settled, unless_misfit}
use Rattle.lab_inputs.proofs.Fits.{all_fits}
use Rattle.lab_inputs.proofs.Roles.{AreWithin, adds_count, adds_within, among_cons, among_more, among_none, networks_among, networks_named}
use Rattle.lab_inputs.proofs.Steps.{ok_same, read_ok, role_ok}
use Rattle.lab_inputs.proofs.Tables.{no_table_is}

-- the bytes of a file that adds something, and what they add
added : (file : NamedFile) (files : Files) (v w : ContentValues) → with_file v file files ≡ Ok w → (bytes : Text) × ((role_row file.0).adds file.1 v bytes ≡ Ok w)
unfolding with_file
added file files v w h =
    let x = then_ok (bytes_of file.0 (files file.1)) (λ bytes. read_as ((role_row file.0).adds file.1 v bytes)) w h in
    (x.0, read_ok ((role_row file.0).adds file.1 v x.0) w x.2)

files_within : (later : List NamedFile) (files : Files) (v w : ContentValues) → with_files v later files ≡ Ok w → AreWithin v → AreWithin w × (length w.networks ≡ length v.networks + networks_among later)
files_within [] files v w h k =
    let same = ok_same _ v w refl h in
    let count = ap (λ (u : ContentValues). length u.networks) same in
    let none = among_none in
    (subst AreWithin same k, omega (arith, count, none))
files_within (file ∷ later) files v w h k =
    let x = then_ok (at_role file.0 (with_file v file files)) (λ more. with_files more later files) w h in
    let y = added file files v x.0 (role_ok file.0 (with_file v file files) x.0 x.1) in
    let one = adds_count file.0 file.1 y.0 v x.0 y.1 in
    let rest = files_within later files x.0 w x.2 (adds_within file.0 file.1 y.0 v x.0 y.1 k) in
    let count = rest.1 in
    let both = among_cons file later in
    (rest.0, omega (arith, one, count, both))

film_within : (manifest : Text) (files : Files) (film : Film) → film_in manifest files ≡ Ok film → AreWithin (film_alone film)
unfolding film_in
film_within manifest files film h =
    let x = then_ok (bytes_of role.Manifest (files manifest)) (λ bytes. read_as (manifest_of bytes)) film h in
    let is = manifest-limits x.0 film (read_ok (manifest_of x.0) film x.2) in
    record { film = is; table = no_table_is film is; networks = λ k d low. absurd (omega arith) }

from_within : (manifest : Text) (later : List NamedFile) (files : Files) (v : ContentValues) → contents_from manifest later files ≡ Ok v → AreWithin v × (length v.networks ≡ networks_among later)
unfolding contents_from
from_within manifest later files v h =
    let x = then_ok (at_role role.Manifest (film_in manifest files)) (λ film. with_files (film_alone film) later files) v h in
    let y = files_within later files (film_alone x.0) v x.2 (film_within manifest files x.0 (role_ok role.Manifest (film_in manifest files) x.0 x.1)) in
    let count = y.1 in
    (y.0, omega (arith, count))

-- one file more adds its networks to those of the files before it
pub one_more_counted : (r : Role) (name : Text) (v w : ContentValues) (before : List NamedFile) → length v.networks ≡ networks_among before → (bytes : Text) × ((role_row r).adds name v bytes ≡ Ok w)
    → length w.networks ≡ networks_among (before ++ (r, name) ∷ [])
one_more_counted r name v w before h x =
    let one = adds_count r name x.0 v w x.1 in
    let more = among_more before (r, name) in
    omega (arith, one, h, more)

-- no command names more than 64 networks
pub few_networks : (c : CommandWords) → IsWithinLimits c → length c.traces ≤ 64
few_networks c limits = by_verb c.verb limits.counts
  where
    by_verb : (v : Verb) → AreCounted v (length c.traces) (length c.rules) → length c.traces ≤ 64
    by_verb verb.Simulate h = let one = h.0 in omega (arith, one)
    by_verb verb.Compare h = h.0.1
    by_verb verb.Plan h = let one = h.0 in omega (arith, one)
    by_verb verb.Check h = let one = h.0 in omega (arith, one)
    by_verb verb.Demo h = let none = h.0 in omega (arith, none)

-- what a command is about, from what its files hold
pub inputs_held : (c : CommandWords) (files : Files) (i : InputValues) → inputs_of c files ≡ Ok i → (v : ContentValues) × (i ≡ inputs_on c v) × (contents_of c files ≡ Ok v)
unfolding inputs_of
inputs_held c files i h = let x = map_ok-ok (inputs_on c) (contents_of c files) i h in (x.0, sym x.2, x.1)

unless_none : (i j : InputValues) (o : Option Setting) → unless_misfit i o ≡ Ok j → (i ≡ j) × (o ≡ None)
unless_none i j None h = (ok_same _ i j refl h, refl)
unless_none i j (Some setting) h = cc

-- where no setting stops, all fits
pub settled_fits : (i j : InputValues) → settled i ≡ Ok j → (i ≡ j) × (misfit i.setup i.rules i.film ≡ None) × Fits i
settled_fits i j h =
    let x = unless_none i j (misfit i.setup i.rules i.film) h in
    let fits = all_fits i.setup i.rules i.film x.1 in
    (x.0, x.1, record { setup = fits.0; rules = fits.1 })

-- there is a network for each that the words name, and the rules are those of the words
pub inputs_counted : (c : CommandWords) (files : Files) (i : InputValues) → inputs_of c files ≡ Ok i → (length i.networks ≡ length c.traces) × (i.rules ≡ c.rules)
inputs_counted c files i h =
    let held = inputs_held c files i h in
    let w = from_within c.manifest (later_files c) files held.0 held.2 in
    (ap (λ (v : InputValues). length v.networks) held.1 ∙ w.1 ∙ networks_named c, ap (λ (v : InputValues). v.rules) held.1)

-- what is ready: read and settled, within the limits, with a network for each that the words name
pub record IsReady (c : CommandWords) (files : Files) (i : InputValues) : Type 0 where
  pub contents : ContentValues
  pub inputs : i ≡ inputs_on c contents
  pub read : inputs_of c files ≡ Ok i
  pub settled : misfit i.setup i.rules i.film ≡ None
  pub fits : Fits i
  pub within : AreWithin contents
  pub count : length i.networks ≡ length c.traces

-- inputs that are read and settled are ready
pub is_ready : (c : CommandWords) (files : Files) (i j : InputValues) → inputs_of c files ≡ Ok i → settled i ≡ Ok j → IsReady c files i
is_ready c files i j h k =
    let held = inputs_held c files i h in
    let w = from_within c.manifest (later_files c) files held.0 held.2 in
    let fits = settled_fits i j k in
    record {
      contents = held.0;
      inputs = held.1;
      read = h;
      settled = fits.1;
      fits = fits.2;
      within = w.0;
      count = ap (λ (v : InputValues). length v.networks) held.1 ∙ w.1 ∙ networks_named c;
    }

-- what a command gets ready
pub ready_is : (c : CommandWords) (files : Files) (i : InputValues) → ready_of c files ≡ Ok i → IsReady c files i
unfolding ready_of
ready_is c files i h =
    let x = then_ok (inputs_of c files) settled i h in
    let same = (settled_fits x.0 i x.2).0 in
    subst (IsReady c files) same (is_ready c files x.0 i x.1 x.2)
