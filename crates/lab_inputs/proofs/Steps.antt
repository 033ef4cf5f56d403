-- One file after the other: what those before it gave, and what one more adds or refuses.
use Rattle.std.specs.Option.{option_copied}
use Rattle.std.specs.Borrow.{Bor}
use Rattle.std.specs.List.{All, slice_get}
use Rattle.std.specs.Prelude.{IfSome}
use Rattle.std.proofs.Common.{◌≡◌, ℕ, ◌+◌, ◌≤◌, ◌++◌, List, [], ◌∷◌, map, option_map, string_bytes, String, Option, Some, None, Result, Ok, Err, IsOk, ap, sym, ◌∙◌, refl, inl, inr, arith, append_assoc, length, ◌<◌, take, drop, get_or, add-one, drop-cons, subst}
use Rattle.std.proofs.lemmas.List.{length-map, length-take-le, map-append, take-append-drop}
use Rattle.std.proofs.Math.Seq.{take-suc}
use Rattle.std.specs.Result.{IsErrAnd}
use Rattle.std.proofs.lemmas.Option.{slice_get-map}
use Rattle.std.proofs.lemmas.Result.{err_from_is_err_and}
use Rattle.lab_model.specs.declared.fault.Refusal.{Refusal}
use Rattle.lab_model.specs.Film.{Film}
use Rattle.lab_model.specs.Steps.{◌>>=◌, map_ok}
use Rattle.lab_io.specs.Sink.{Text, Rose}
use Rattle.lab_io.specs.Shelf.{Shelved}
use Rattle.lab_words.specs.declared.Verb.{Verb}
use Rattle.lab_words.specs.declared.Verb.TheVariants as verb
use Rattle.lab_words.specs.Limits.{HasFilm}
use Rattle.lab_words.specs.Command.{CommandWords}
use Rattle.lab_inputs.specs.declared.fetch.FileErr.{FileErr}
use Rattle.lab_inputs.specs.declared.fetch.FileErr.TheVariants as err
use Rattle.lab_inputs.specs.declared.role.FileName.{FileName}
use Rattle.lab_inputs.specs.declared.role.Role.{Role}
use Rattle.lab_inputs.specs.declared.role.Role.TheVariants as role
use Rattle.lab_inputs.specs.declared.stop.FileFault.{FileFault}
use Rattle.lab_inputs.specs.declared.stop.FileFault.TheVariants as fault
use Rattle.lab_inputs.specs.declared.stop.Stop.{Stop}
use Rattle.lab_inputs.specs.declared.stop.Stop.TheVariants as stop
use Rattle.lab_inputs.specs.declared.stop.Halt.{Halt}
use Rattle.lab_inputs.specs.declared.stop.Halt.TheVariants as halt
use Rattle.lab_inputs.specs.Contents.{ContentValues, film_alone}
use Rattle.lab_inputs.specs.Files.{AreAccepted, Files, at_role, bytes_of, contents_from, film_in, read_as, request_of, with_file, with_files}
use Rattle.lab_inputs.specs.Roles.{NamedFile, files_by, files_of, film_files, role_row, trace_files, trace_role, traces_from}
use Rattle.lab_inputs.specs.Stages.{Asks, AsksFor, AsksSome, AsksUpTo, Comes, Reads, Tells, named_file, halt_of}
use Rattle.lab_inputs.proofs.Files.{asks_all, asks_none}

-- these files were asked for, and then those
pub asks_more : (xs ys : List NamedFile) (a b c : Shelved) → Asks xs a b → Asks ys b c → Asks (xs ++ ys) a c
asks_more xs ys a b c p q = record {
  asked = q.asked ∙ ap (λ l. l ++ map request_of ys) p.asked ∙ append_assoc a.asked (map request_of xs) (map request_of ys) ∙ ap (λ l. a.asked ++ l) (sym (map-append request_of xs ys));
  files = q.files ∙ p.files;
  faults = λ name. let l = p.faults name in let m = q.faults name in omega (arith, l, m);
  sure = q.sure ∙ p.sure;
  steady = λ name h. q.steady name (ap (λ s. s name) p.sure ∙ h) ∙ p.steady name h;
}

split_more : (before asked later after : List NamedFile) (file : NamedFile) → file ∷ [] ≡ asked ++ later → before ++ file ∷ after ≡ (before ++ asked) ++ (later ++ after)
split_more before asked later after file e =
    ap (λ l. before ++ (l ++ after)) e ∙ ap (λ l. before ++ l) (append_assoc asked later after) ∙ sym (append_assoc before asked (later ++ after))

rose_later : (a b c : ℕ) → a ≤ b → Rose b c → Rose a c
rose_later a b c h (inl x) = inl (omega arith)
rose_later a b c h (inr x) = inr x

-- a file that gives no value ends the command, those before it being accepted
pub halts : {X Y Z W : Type 0} (before after : List NamedFile) (file : NamedFile) (seen : X → Y) (seen2 : Z → W) (value : Files → Result Y FileFault) (whole : Files → Result W Stop) (old mid new : Shelved) (e : FileErr)
    → Asks before old mid → ((files : Files) → Tells old files → AreAccepted before files) → ((files : Files) (why : FileFault) → Tells old files → value files ≡ Err why → whole files ≡ Err (stop.File file.0 why))
    → Reads file seen value mid (Err e) new → Comes (before ++ file ∷ after) seen2 whole old (Err (halt_of file.0 e)) new
halts before after file seen seen2 value whole old mid new err.Memory a ok stops x =
    record { asked = before ++ x.asked; later = x.later ++ after; split = split_more before x.asked x.later after file x.split; asks = asks_more before x.asked old mid new a x.asks }
halts before after file seen seen2 value whole old mid new (err.Stopped fault.NotRead) a ok stops x =
    ((record { before = before; name = file.1; later = after; split = refl; asks = asks_more before (file ∷ []) old mid new a x.0 }, rose_later _ _ _ (a.faults file.1) x.1, ok), λ files t. tt)
halts before after file seen seen2 value whole old mid new (err.Stopped fault.TooLong) a ok stops x =
    (record { before = before; name = file.1; later = after; split = refl; asks = asks_more before (file ∷ []) old mid new a x.0 }, λ files t. stops files fault.TooLong t (x.1 files (a.files ∙ t)))
halts before after file seen seen2 value whole old mid new (err.Stopped (fault.Refused why)) a ok stops x =
    (record { before = before; name = file.1; later = after; split = refl; asks = asks_more before (file ∷ []) old mid new a x.0 }, λ files t. stops files (fault.Refused why) t (x.1 files (a.files ∙ t)))

bind_more : {A : Type 0} (o : Result A Stop) (f g : A → Result ContentValues Stop) (v : ContentValues) (r : Result ContentValues Stop) → ((x : A) → f x ≡ Ok v → g x ≡ r) → (o >>= f) ≡ Ok v → (o >>= g) ≡ r
bind_more (Ok x) f g v r h e = h x e
bind_more (Err s) f g v r h e = cc

-- one result has one value
pub ok_same : {A E : Type 0} (o : Result A E) (x y : A) → o ≡ Ok x → o ≡ Ok y → x ≡ y
ok_same o x y e h = cc

files_more : (i v : ContentValues) (xs ys : List NamedFile) (files : Files) → with_files i xs files ≡ Ok v → with_files i (xs ++ ys) files ≡ with_files v ys files
files_more i v [] ys files e = ap (λ j. with_files j ys files) (ok_same (with_files i [] files) i v refl e)
files_more i v (x ∷ xs) ys files e = bind_more (at_role x.0 (with_file i x files)) _ _ v _ (λ m h. files_more m v xs ys files h) e

-- the files before these gave their values
pub inputs_more : (manifest : Text) (v : ContentValues) (xs ys : List NamedFile) (files : Files) → contents_from manifest xs files ≡ Ok v → contents_from manifest (xs ++ ys) files ≡ with_files v ys files
unfolding contents_from
inputs_more manifest v xs ys files e = bind_more (at_role role.Manifest (film_in manifest files)) _ _ v _ (λ film h. files_more (film_alone film) v xs ys files h) e

-- one file more gives its value
pub inputs_one_more : (manifest : Text) (v w : ContentValues) (xs : List NamedFile) (file : NamedFile) (files : Files) → contents_from manifest xs files ≡ Ok v → with_file v file files ≡ Ok w → contents_from manifest (xs ++ file ∷ []) files ≡ Ok w
inputs_one_more manifest v w xs file files e h = inputs_more manifest v xs (file ∷ []) files e ∙ rw h refl

-- one file more refuses the whole
pub inputs_stopped : (manifest : Text) (v : ContentValues) (xs ys : List NamedFile) (file : NamedFile) (why : FileFault) (files : Files) → contents_from manifest xs files ≡ Ok v → with_file v file files ≡ Err why
    → contents_from manifest (xs ++ file ∷ ys) files ≡ Err (stop.File file.0 why)
inputs_stopped manifest v xs ys file why files e h = inputs_more manifest v xs (file ∷ ys) files e ∙ rw h refl

-- the manifest refuses the whole
pub film_stopped : (manifest : Text) (later : List NamedFile) (why : FileFault) (files : Files) → film_in manifest files ≡ Err why → contents_from manifest later files ≡ Err (stop.File role.Manifest why)
unfolding contents_from
film_stopped manifest later why files h = rw h refl

-- the manifest alone
pub film_first : (manifest : Text) (film : Film) (files : Files) → film_in manifest files ≡ Ok film → contents_from manifest [] files ≡ Ok (film_alone film)
unfolding contents_from
film_first manifest film files h = rw h refl

from_more : (v : Verb) (place : ℕ) (names : List Text) (name : Text) → traces_from v place (names ++ name ∷ []) ≡ traces_from v place names ++ (trace_role v (place + length names), name) ∷ []
from_more v place [] name = ap (λ p. (trace_role v p, name) ∷ []) (omega arith)
from_more v place (first ∷ names) name =
    let same : place + 1 + length names ≡ place + length (first ∷ names) = omega arith in
    ap (λ l. (trace_role v place, first) ∷ l) (from_more v (place + 1) names name ∙ ap (λ p. traces_from v (place + 1) names ++ (trace_role v p, name) ∷ []) same)

-- the names up to a place and the one there
pub names_more : {Z : Type 0} (names : List (String Z)) (i : ℕ) (name : String Z) → i < length names → name ≡ get_or names i name
    → (i + 1 ≡ length (map string_bytes (take i names)) + 1) × (map string_bytes (take (i + 1) names) ≡ map string_bytes (take i names) ++ string_bytes name ∷ [])
names_more names i name lt e =
    let count = length-map (take i names) string_bytes ∙ length-take-le i names (omega arith) in
    (omega (arith, count), ap (map string_bytes) (rw (add-one, take-suc names i name lt, ← e) refl) ∙ map-append string_bytes (take i names) (name ∷ []))

-- one trace more, behind those before it
pub trace_more : (v : Verb) (names : List Text) (name : Text) (files : List NamedFile) (place : ℕ) → files ≡ trace_files v names → place ≡ length names + 1 → files ++ (trace_role v place, name) ∷ [] ≡ trace_files v (names ++ name ∷ [])
trace_more v names name files place e n =
    let same : place ≡ 1 + length names = omega (arith, n) in
    rw (e, same) (sym (from_more v 1 names name))

-- the file at a place, with those before it and those behind it
pub at_file : (items : List FileName) (i : ℕ) (d : FileName) → i < length items → map named_file items ≡ map named_file (take i items) ++ named_file (get_or items i d) ∷ map named_file (drop (i + 1) items)
at_file items i d lt =
    let parts : map named_file (take i items ++ drop i items) ≡ map named_file items = rw (take-append-drop i items) refl in
    let rest : drop i items ≡ get_or items i d ∷ drop (i + 1) items = rw (add-one, drop-cons items i d) refl in
    sym parts ∙ map-append named_file (take i items) (drop i items) ∙ ap (λ l. map named_file (take i items) ++ map named_file l) rest

-- the files up to a place and the one there
pub next_file : (items : List FileName) (i : ℕ) (d : FileName) → i < length items → map named_file (take (i + 1) items) ≡ map named_file (take i items) ++ named_file (get_or items i d) ∷ []
next_file items i d lt = ap (map named_file) (rw (add-one, take-suc items i d lt) refl) ∙ map-append named_file (take i items) (get_or items i d ∷ [])

-- the manifest gives no film
pub film_halts : {X : Type 0} (seen : X → ContentValues) (manifest : Text) (later : List NamedFile) (old new : Shelved) (r : Result Film FileErr) (e : FileErr) (h : Halt) → r ≡ Err e → h ≡ halt_of role.Manifest e
    → Reads (role.Manifest, manifest) (λ (film : Film). film) (film_in manifest) old r new → Comes ((role.Manifest, manifest) ∷ later) seen (contents_from manifest later) old (Err h) new
film_halts seen manifest later old new r e h same k x =
    let xx : Reads (role.Manifest, manifest) (λ (film : Film). film) (film_in manifest) old (Err e) new = rw same at x in
    rw k (halts [] later (role.Manifest, manifest) (λ film. film) seen (film_in manifest) (contents_from manifest later) old old new e (asks_none old) (λ files t. tt) (λ files why t f. film_stopped manifest later why files f) xx)

-- memory was wanting once the film was there
pub film_wanting : {X : Type 0} (seen : X → ContentValues) (manifest : Text) (later : List NamedFile) (old new : Shelved) (q : Result X Halt) → IsErrAnd q (λ y. y ≡ halt.NoMemory) → Asks ((role.Manifest, manifest) ∷ []) old new
    → Comes ((role.Manifest, manifest) ∷ later) seen (contents_from manifest later) old q new
film_wanting seen manifest later old new q k a =
    let p = err_from_is_err_and q k in
    let some : AsksSome ((role.Manifest, manifest) ∷ later) old new = record { asked = (role.Manifest, manifest) ∷ []; later = later; split = refl; asks = a } in
    rw (p.1 ∙ ap Err p.2) some

-- a later file gives no value
pub later_halts : {X Z : Type 0} (seen : X → ContentValues) (seen2 : Z → ContentValues) (manifest : Text) (later before after : List NamedFile) (file : NamedFile) (v : ContentValues) (old mid new : Shelved) (r : Result X FileErr) (e : FileErr) (h : Halt)
    → later ≡ before ++ file ∷ after → r ≡ Err e → h ≡ halt_of file.0 e → Asks ((role.Manifest, manifest) ∷ before) old mid → ((files : Files) → Tells old files → contents_from manifest before files ≡ Ok v)
    → Reads file seen (with_file v file) mid r new → Comes ((role.Manifest, manifest) ∷ later) seen2 (contents_from manifest later) old (Err h) new
later_halts seen seen2 manifest later before after file v old mid new r e h split same k a ok x =
    let xx : Reads file seen (with_file v file) mid (Err e) new = rw same at x in
    let whole : Comes ((role.Manifest, manifest) ∷ (before ++ file ∷ after)) seen2 (contents_from manifest (before ++ file ∷ after)) old (Err h) new = rw k (halts ((role.Manifest, manifest) ∷ before) after file seen seen2 (with_file v file) (contents_from manifest (before ++ file ∷ after)) old mid new e a
    (λ files t. rw (ok files t) refl) (λ files why t f. inputs_stopped manifest v before after file why files (ok files t) f) xx) in
    subst (λ l. Comes ((role.Manifest, manifest) ∷ l) seen2 (contents_from manifest l) old (Err h) new) (sym split) whole

-- what ends a stage ends what follows on it
halt_later : {X Y Z W : Type 0} (named : List NamedFile) (seen : X → Y) (seen2 : Z → W) (meant : Files → Result Y Stop) (after : Y → Result W Stop) (old new : Shelved) (h : Halt)
    → Comes named seen meant old (Err h) new → Comes named seen2 (λ files. meant files >>= after) old (Err h) new
halt_later named seen seen2 meant after old new halt.NoMemory x = x
halt_later named seen seen2 meant after old new (halt.Stopped (stop.File role fault.NotRead)) x = (x.0, λ files t. tt)
halt_later named seen seen2 meant after old new (halt.Stopped (stop.File role fault.TooLong)) x = (x.0, λ files t. rw (x.1 files t) refl)
halt_later named seen seen2 meant after old new (halt.Stopped (stop.File role (fault.Refused why))) x = (x.0, λ files t. rw (x.1 files t) refl)
halt_later named seen seen2 meant after old new (halt.Stopped (stop.Settings setting)) x = (x.0, λ files t. rw (x.1 files t) refl)

-- the same at the exit of a `?`
pub comes_failed : {X Y Z W : Type 0} (named : List NamedFile) (seen : X → Y) (seen2 : Z → W) (meant : Files → Result Y Stop) (after : Y → Result W Stop) (old new : Shelved) (r : Result X Halt) (q : Result Z Halt) (h : Halt)
    → r ≡ Err h → IsErrAnd q (λ y. y ≡ h) → Comes named seen meant old r new → Comes named seen2 (λ files. meant files >>= after) old q new
comes_failed named seen seen2 meant after old new r q h e k x =
    let p = err_from_is_err_and q k in
    let xx : Comes named seen meant old (Err h) new = rw e at x in
    rw (p.1 ∙ ap Err p.2) (halt_later named seen seen2 meant after old new h xx)

ok_value : {A E : Type 0} (r : Result A E) → IsOk r → (x : A) × (r ≡ Ok x)
ok_value (Ok x) h = (x, refl)
ok_value (Err e) h = cc

heads : (x y : NamedFile) (xs ys : List NamedFile) → x ∷ xs ≡ y ∷ ys → x ≡ y
heads x y xs ys e = cc

tails : (x y : NamedFile) (xs ys : List NamedFile) → x ∷ xs ≡ y ∷ ys → xs ≡ ys
tails x y xs ys e = cc

not_there : (i : ContentValues) (file : NamedFile) (files : Files) → files file.1 ≡ None → with_file i file files ≡ Err fault.NotRead
unfolding with_file
not_there i file files n = rw n refl

no_film : (manifest : Text) (files : Files) → files manifest ≡ None → film_in manifest files ≡ Err fault.NotRead
unfolding film_in
no_film manifest files n = rw n refl

-- a file that is lacking is what the inputs come to, where those before it are accepted
pub lacking : (manifest : Text) (later before after : List NamedFile) (file : NamedFile) (files : Files) → (role.Manifest, manifest) ∷ later ≡ before ++ file ∷ after → AreAccepted before files → files file.1 ≡ None
    → contents_from manifest later files ≡ Err (stop.File file.0 fault.NotRead)
lacking manifest later [] after file files split ok none =
    let same : (role.Manifest, manifest) ≡ file = heads _ _ _ _ split in
    let gone : files manifest ≡ None = ap (λ (f : NamedFile). files f.1) same ∙ none in
    film_stopped manifest later fault.NotRead files (no_film manifest files gone) ∙ ap (λ (f : NamedFile). Err (stop.File f.0 fault.NotRead)) same
lacking manifest later (first ∷ xs) after file files split ok none =
    let same : (role.Manifest, manifest) ≡ first = heads _ _ _ _ split in
    let rest : later ≡ xs ++ file ∷ after = tails _ _ _ _ split in
    let v = ok_value (contents_from first.1 xs files) ok in
    let read : contents_from manifest xs files ≡ Ok v.0 = ap (λ (f : NamedFile). contents_from f.1 xs files) same ∙ v.1 in
    rw rest (inputs_stopped manifest v.0 xs after file fault.NotRead files read (not_there v.0 file files none))

-- a command on a film names the manifest and the files behind it
pub on_film : (c : CommandWords) → HasFilm c.verb → files_of c ≡ film_files c
on_film c film = by_verb c.verb c film
  where
    by_verb : (v : Verb) (c : CommandWords) → HasFilm v → files_by v c ≡ film_files c
    by_verb verb.Simulate c film = refl
    by_verb verb.Compare c film = refl
    by_verb verb.Plan c film = refl
    by_verb verb.Check c film = refl
    by_verb verb.Demo c film = absurd film

no_member : {A : Type 0} (xs ys : List A) (x : A) → [] ≡ xs ++ x ∷ ys → ⊥
no_member [] ys x e = cc
no_member (y ∷ xs) ys x e = cc

-- a command that names a file is on a film
pub named_film : (c : CommandWords) (before later : List NamedFile) (file : NamedFile) → files_of c ≡ before ++ file ∷ later → HasFilm c.verb
named_film c before later file e = by_verb c.verb c e
  where
    by_verb : (v : Verb) (c : CommandWords) → files_by v c ≡ before ++ file ∷ later → HasFilm v
    by_verb verb.Simulate c e = tt
    by_verb verb.Compare c e = tt
    by_verb verb.Plan c e = tt
    by_verb verb.Check c e = tt
    by_verb verb.Demo c e = no_member before later file e

up_to_some : (named : List NamedFile) (role : Role) (old new : Shelved) → AsksUpTo named role old new → AsksSome named old new
up_to_some named role old new a = record { asked = a.before ++ (role, a.name) ∷ []; later = a.later; split = a.split ∙ sym (append_assoc a.before ((role, a.name) ∷ []) a.later); asks = a.asks }

-- the files that were asked for before a stop are the first of those that are named
pub stops_some : (named : List NamedFile) (old new : Shelved) (why : Stop) → AsksFor named why old new → AsksSome named old new
stops_some named old new (stop.File role fault.NotRead) x = up_to_some named role old new x.0
stops_some named old new (stop.File role fault.TooLong) x = up_to_some named role old new x
stops_some named old new (stop.File role (fault.Refused why)) x = up_to_some named role old new x
stops_some named old new (stop.Settings setting) x = asks_all named old new x

-- what a reader accepts, it makes
pub read_ok : {A : Type 0} (o : Result A Refusal) (x : A) → read_as o ≡ Ok x → o ≡ Ok x
read_ok (Ok y) x e = let k : y ≡ x = ok_same _ y x refl e in ap Ok k
read_ok (Err why) x e = cc

-- what no fault stops went well
pub role_ok : {A : Type 0} (role : Role) (o : Result A FileFault) (x : A) → at_role role o ≡ Ok x → o ≡ Ok x
role_ok role (Ok y) x e = let k : y ≡ x = ok_same _ y x refl e in ap Ok k
role_ok role (Err why) x e = cc

-- what ends a stage ends what its value would have added to
halt_mapped : {X Y Z W : Type 0} (named : List NamedFile) (seen : X → Y) (seen2 : Z → W) (f : Y → W) (meant : Files → Result Y Stop) (old new : Shelved) (h : Halt)
    → Comes named seen meant old (Err h) new → Comes named seen2 (λ files. map_ok f (meant files)) old (Err h) new
halt_mapped named seen seen2 f meant old new halt.NoMemory x = x
halt_mapped named seen seen2 f meant old new (halt.Stopped (stop.File role fault.NotRead)) x = (x.0, λ files t. tt)
halt_mapped named seen seen2 f meant old new (halt.Stopped (stop.File role fault.TooLong)) x = (x.0, λ files t. rw (x.1 files t) refl)
halt_mapped named seen seen2 f meant old new (halt.Stopped (stop.File role (fault.Refused why))) x = (x.0, λ files t. rw (x.1 files t) refl)
halt_mapped named seen seen2 f meant old new (halt.Stopped (stop.Settings setting)) x = (x.0, λ files t. rw (x.1 files t) refl)

-- the same at the exit of a `?`
pub mapped_failed : {X Y Z W : Type 0} (named : List NamedFile) (seen : X → Y) (seen2 : Z → W) (f : Y → W) (meant : Files → Result Y Stop) (old new : Shelved) (r : Result X Halt) (q : Result Z Halt) (h : Halt)
    → r ≡ Err h → IsErrAnd q (λ y. y ≡ h) → Comes named seen meant old r new → Comes named seen2 (λ files. map_ok f (meant files)) old q new
mapped_failed named seen seen2 f meant old new r q h e k x =
    let p = err_from_is_err_and q k in
    let xx : Comes named seen meant old (Err h) new = rw e at x in
    rw (p.1 ∙ ap Err p.2) (halt_mapped named seen seen2 f meant old new h xx)

-- a stage that went well, with what its value adds to
pub mapped_ok : {X Y Z W : Type 0} (named : List NamedFile) (seen : X → Y) (seen2 : Z → W) (f : Y → W) (meant : Files → Result Y Stop) (old new : Shelved) (r : Result X Halt) (x : X) (z : Z)
    → r ≡ Ok x → seen2 z ≡ f (seen x) → Comes named seen meant old r new → Comes named seen2 (λ files. map_ok f (meant files)) old (Ok z) new
mapped_ok named seen seen2 f meant old new r x z e k h =
    let c : Comes named seen meant old (Ok x) new = rw e at h in
    (c.0, λ files t. rw (c.1 files t, k) refl)

-- what a reference in an option points to, seen in another way
seen_behind : {A B : Type 0} (f : A → B) (o : Option (Bor A)) → option_map (λ (x : Bor A). f x.now) o ≡ option_map f (option_copied o)
seen_behind f None = refl
seen_behind f (Some x) = refl

-- a reference to the first of some elements shows the first of what they are seen as
pub first_seen : {A B : Type 0} (f : A → B) (xs : List A) (ys : List B) (o : Option (Bor A)) → option_copied o ≡ slice_get xs 0 → map f xs ≡ ys → option_map (λ (x : Bor A). f x.now) o ≡ slice_get ys 0
first_seen f xs ys o e h = seen_behind f o ∙ ap (option_map f) e ∙ sym (slice_get-map f xs 0) ∙ ap (λ l. slice_get l 0) h

-- what holds of all that they are seen as holds of it
pub first_holds : {A B : Type 0} (P : B → Type 0) (f : A → B) (ys : List B) (o : Option (Bor A)) → option_map (λ (x : Bor A). f x.now) o ≡ slice_get ys 0 → All P ys → IfSome o (λ (x : Bor A). P (f x.now))
first_holds P f ys None e h = tt
first_holds P f [] (Some x) e h = cc
first_holds P f (y ∷ ys) (Some x) e h = let same : f x.now ≡ y = cc in subst P (sym same) (h 0 y (omega arith))
