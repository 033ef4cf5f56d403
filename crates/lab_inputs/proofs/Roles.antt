-- The one place of the proofs where roles are told apart: what the row of each says of what its bytes add.
use Rattle.std.proofs.Common.{◌≡◌, ◌∙◌, ℕ, ◌+◌, ◌++◌, List, [], ◌∷◌, Bool, true, false, Option, Some, None, Result, Ok, length, length-append, ap, sym, refl, subst, arith, if◌then◌else◌}
use Rattle.std.specs.Prelude.{sum_by}
use Rattle.std.specs.List.{All}
use Rattle.std.proofs.lemmas.List.Elements.{All-push}
use Rattle.std.proofs.lemmas.List.Sums.{sum_by-append, sum_by-cons}
use Rattle.lab_io.specs.Sink.{Text}
use Rattle.lab_model.specs.declared.trace.Period.{Period}
use Rattle.lab_model.specs.Cycle.{IsTrace}
use Rattle.lab_model.specs.Film.{IsFilm, rungs_of, segments_of}
use Rattle.lab_model.specs.Steps.{map_ok}
use Rattle.lab_model.proofs.Steps.{map_ok-ok}
use Rattle.lab_words.specs.declared.Verb.{Verb}
use Rattle.lab_words.specs.declared.Verb.TheVariants as verb
use Rattle.lab_words.specs.Command.{CommandWords}
use Rattle.manifest_reader.specs.Manifest.{manifest_of}
use Rattle.manifest_reader.proofs.Accepted.{manifest-limits}
use Rattle.seek_script.specs.Script.{seeks_of}
use Rattle.trace_reader.specs.Trace.{trace_json}
use Rattle.trace_reader.specs.TraceCsv.{trace_csv_of}
use Rattle.trace_reader.proofs.Accepted.{trace_csv-limits, trace_json-limits}
use Rattle.lab_inputs.specs.declared.role.Role.{Role}
use Rattle.lab_inputs.specs.declared.role.Role.TheVariants as role
use Rattle.utility_table.specs.Table.{table_utilities}
use Rattle.utility_table.proofs.Limits.{utilities-fit}
use Rattle.lab_inputs.specs.Contents.{ContentValues, IsTable, is_csv, trace_of, with_certificate, with_film, with_network, with_seeks, with_table}
use Rattle.lab_inputs.specs.Roles.{NamedFile, certificate_role, later_files, optional_file, role_row, trace_files, trace_role, traces_from}
use Rattle.lab_inputs.proofs.Steps.{ok_same}
use Rattle.lab_inputs.proofs.Tables.{no_table_is, table_is}

-- the film, the table and the networks keep their limits
pub record AreWithin (v : ContentValues) : Type 0 where
  pub film : IsFilm v.film
  pub table : IsTable v.film v.table
  pub networks : All (λ (n : Text × List Period). IsTrace n.1) v.networks

by_format : (csv : Bool) (bytes : Text) (ps : List Period) → (if csv then trace_csv_of bytes else trace_json bytes) ≡ Ok ps → IsTrace ps
by_format true bytes ps h = trace_csv-limits bytes ps h
by_format false bytes ps h = trace_json-limits bytes ps h

network_within : (name bytes : Text) (v w : ContentValues) → map_ok (with_network name v) (trace_of name bytes) ≡ Ok w → AreWithin v → AreWithin w
network_within name bytes v w h k =
    let x = map_ok-ok (with_network name v) (trace_of name bytes) w h in
    let limits = by_format (is_csv name) bytes x.0 x.1 in
    subst AreWithin x.2 (record { film = k.film; table = k.table; networks = All-push (λ (n : Text × List Period). IsTrace n.1) v.networks (name, x.0) k.networks limits })

-- what one file more adds keeps the limits
pub adds_within : (r : Role) (name bytes : Text) (v w : ContentValues) → (role_row r).adds name v bytes ≡ Ok w → AreWithin v → AreWithin w
adds_within role.Manifest name bytes v w h k =
    let x = map_ok-ok (with_film v) (manifest_of bytes) w h in
    let film = manifest-limits bytes x.0 x.1 in
    subst AreWithin x.2 (record { film = film; table = no_table_is x.0 film; networks = k.networks })
adds_within role.Utilities name bytes v w h k =
    let x = map_ok-ok (with_table v) (table_utilities bytes (segments_of v.film) (rungs_of v.film)) w h in
    let fit = utilities-fit bytes (segments_of v.film) (rungs_of v.film) x.0 k.film.rungs k.film.segments x.1 in
    subst AreWithin x.2 (record { film = k.film; table = table_is v.film x.0 k.film fit; networks = k.networks })
adds_within role.Trace name bytes v w h k = network_within name bytes v w h k
adds_within (role.TraceAt place) name bytes v w h k = network_within name bytes v w h k
adds_within role.Seeks name bytes v w h k =
    let x = map_ok-ok (with_seeks v) (seeks_of bytes (segments_of v.film)) w h in
    subst AreWithin x.2 (record { film = k.film; table = k.table; networks = k.networks })
adds_within role.Certificate name bytes v w h k =
    subst AreWithin (ok_same _ (with_certificate v bytes) w refl h) (record { film = k.film; table = k.table; networks = k.networks })
adds_within role.PriceCertificate name bytes v w h k =
    subst AreWithin (ok_same _ (with_certificate v bytes) w refl h) (record { film = k.film; table = k.table; networks = k.networks })

-- ---- how many networks there are

-- how many networks a file of this role is
pub networks_in : Role → ℕ
networks_in role.Manifest = 0
networks_in role.Utilities = 0
networks_in role.Trace = 1
networks_in (role.TraceAt place) = 1
networks_in role.Seeks = 0
networks_in role.Certificate = 0
networks_in role.PriceCertificate = 0

-- how many networks these files are
pub networks_among : List NamedFile → ℕ
networks_among files = sum_by (λ (file : NamedFile). networks_in file.0) files

count_kept : (v w : ContentValues) → w.networks ≡ v.networks → length w.networks ≡ length v.networks + 0
count_kept v w e = let k = ap length e in omega (arith, k)

-- one file more adds as many networks as its role says
pub adds_count : (r : Role) (name bytes : Text) (v w : ContentValues) → (role_row r).adds name v bytes ≡ Ok w → length w.networks ≡ length v.networks + networks_in r
unfolding networks_in
adds_count role.Manifest name bytes v w h = let x = map_ok-ok (with_film v) (manifest_of bytes) w h in count_kept v w (sym (ap (λ (u : ContentValues). u.networks) x.2))
adds_count role.Utilities name bytes v w h = let x = map_ok-ok (with_table v) (table_utilities bytes (segments_of v.film) (rungs_of v.film)) w h in count_kept v w (sym (ap (λ (u : ContentValues). u.networks) x.2))
adds_count role.Trace name bytes v w h =
    let x = map_ok-ok (with_network name v) (trace_of name bytes) w h in
    sym (ap (λ (u : ContentValues). length u.networks) x.2) ∙ length-append v.networks ((name, x.0) ∷ [])
adds_count (role.TraceAt place) name bytes v w h =
    let x = map_ok-ok (with_network name v) (trace_of name bytes) w h in
    sym (ap (λ (u : ContentValues). length u.networks) x.2) ∙ length-append v.networks ((name, x.0) ∷ [])
adds_count role.Seeks name bytes v w h = let x = map_ok-ok (with_seeks v) (seeks_of bytes (segments_of v.film)) w h in count_kept v w (sym (ap (λ (u : ContentValues). u.networks) x.2))
adds_count role.Certificate name bytes v w h = count_kept v w (sym (ap (λ (u : ContentValues). u.networks) (ok_same _ (with_certificate v bytes) w refl h)))
adds_count role.PriceCertificate name bytes v w h = count_kept v w (sym (ap (λ (u : ContentValues). u.networks) (ok_same _ (with_certificate v bytes) w refl h)))

one_network : (v : Verb) (place : ℕ) → networks_in (trace_role v place) ≡ 1
unfolding networks_in
one_network verb.Simulate place = refl
one_network verb.Compare place = refl
one_network verb.Plan place = refl
one_network verb.Check place = refl
one_network verb.Demo place = refl

-- the files of one more and of those behind it
pub among_cons : (file : NamedFile) (files : List NamedFile) → networks_among (file ∷ files) ≡ networks_in file.0 + networks_among files
unfolding networks_among
among_cons file files = sum_by-cons (λ (file : NamedFile). networks_in file.0) file files

-- and so has one more behind them
pub among_more : (files : List NamedFile) (file : NamedFile) → networks_among (files ++ file ∷ []) ≡ networks_among files + networks_in file.0
unfolding networks_among
among_more files file =
    let both = sum_by-append (λ (file : NamedFile). networks_in file.0) files (file ∷ []) in
    let one = sum_by-cons (λ (file : NamedFile). networks_in file.0) file [] in
    omega (arith, both, one)

-- no files are no networks
pub among_none : networks_among [] ≡ 0
unfolding networks_among
among_none = refl

all_networks : (v : Verb) (place : ℕ) (names : List Text) → networks_among (traces_from v place names) ≡ length names
all_networks v place [] = among_none
all_networks v place (name ∷ names) =
    let h = all_networks v (place + 1) names in
    let one = one_network v place in
    let e = among_cons (trace_role v place, name) (traces_from v (place + 1) names) in
    omega (arith, e, one, h)

no_networks : (near : Bool) (seeks certificate : Option Text) → networks_among (optional_file role.Seeks seeks ++ optional_file (certificate_role near) certificate) ≡ 0
unfolding networks_among networks_in
no_networks near None None = refl
no_networks true None (Some name) = refl
no_networks false None (Some name) = refl
no_networks near (Some name) None = refl
no_networks true (Some name) (Some other) = refl
no_networks false (Some name) (Some other) = refl

no_table_networks : (table : Option Text) → networks_among (optional_file role.Utilities table) ≡ 0
unfolding networks_among networks_in
no_table_networks None = refl
no_table_networks (Some name) = refl

-- the networks among the files of a command are those that the words name
pub networks_named : (c : CommandWords) → networks_among (later_files c) ≡ length c.traces
unfolding networks_among
networks_named c =
    let first = sum_by-append (λ (file : NamedFile). networks_in file.0) (optional_file role.Utilities c.table) (trace_files c.verb c.traces ++ (optional_file role.Seeks c.seeks ++ optional_file (certificate_role c.near) c.certificate)) in
    let e = sum_by-append (λ (file : NamedFile). networks_in file.0) (trace_files c.verb c.traces) (optional_file role.Seeks c.seeks ++ optional_file (certificate_role c.near) c.certificate) in
    let table = no_table_networks c.table in
    let some = all_networks c.verb 1 c.traces in
    let none = no_networks c.near c.seeks c.certificate in
    omega (arith, first, e, table, some, none)
