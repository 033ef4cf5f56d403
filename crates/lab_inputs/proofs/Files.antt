-- What reading one file comes to: what is fetched, and what a reader makes of it.
use Rattle.std.proofs.Common.{◌≡◌, inl, inr, List, [], ◌∷◌, Result, Ok, Err, ap, ◌∙◌, refl, append-nil, sym, rules, ◌+◌}
use Rattle.std.specs.Result.{IsErrAnd}
use Rattle.std.proofs.lemmas.Result.{err_from_is_err_and}
use Rattle.lab_io.specs.Sink.{Text}
use Rattle.lab_io.specs.Shelf.{Shelved, Fetches}
use Rattle.lab_io.specs.declared.FetchErr.TheVariants as fetch
use Rattle.lab_model.specs.declared.fault.Refusal.{Refusal}
use Rattle.lab_model.specs.declared.fault.InputFault.{InputFault}
use Rattle.lab_model.specs.declared.fault.InputFault.TheVariants.{Memory, Refused}
use Rattle.lab_model.specs.Reading.{Fails}
use Rattle.lab_model.specs.Steps.{◌>>=◌}
use Rattle.lab_inputs.specs.declared.fetch.FileErr.{FileErr}
use Rattle.lab_inputs.specs.declared.fetch.FileErr.TheVariants as err
use Rattle.lab_inputs.specs.declared.stop.FileFault.{FileFault}
use Rattle.lab_inputs.specs.declared.stop.FileFault.TheVariants as fault
use Rattle.lab_inputs.specs.Files.{Files, bytes_of, file_in}
use Rattle.lab_inputs.specs.Roles.{NamedFile, role_row}
use Rattle.lab_inputs.specs.Stages.{Asks, AsksSome, Reads, err_of}

-- the shelf was asked for nothing
pub asks_none : (s : Shelved) → Asks [] s s
asks_none s = record { asked = sym (append-nil s.asked); files = refl; faults = λ name. search rules; sure = refl; steady = λ name h. refl }

-- all of the files are some of them
pub asks_all : (files : List NamedFile) (old new : Shelved) → Asks files old new → AsksSome files old new
asks_all files old new a = record { asked = files; later = []; split = sym (append-nil files); asks = a }

-- a call that wanted memory counts, or does not
pub fetch_wanted : (file : NamedFile) (old new : Shelved) → Fetches old file.1 ((role_row file.0).limit + 1) new (Err fetch.Memory) → AsksSome (file ∷ []) old new
fetch_wanted file old new f = elim f.asked as (λ x. AsksSome (file ∷ []) old new) [
  | inl more ↦ record { asked = file ∷ []; later = []; split = refl; asks = record { asked = more; files = f.files; faults = f.faults; sure = f.sure; steady = f.steady } }
  | inr same ↦ record { asked = []; later = file ∷ []; split = refl; asks = record { asked = same ∙ sym (append-nil old.asked); files = f.files; faults = f.faults; sure = f.sure; steady = f.steady } }
]

reads_on : {X Y Z W : Type 0} (file : NamedFile) (seen : X → Y) (seen2 : Z → W) (meant : Files → Result Y FileFault) (after : Y → Result W FileFault) (old new : Shelved) (e : FileErr)
    → Reads file seen meant old (Err e) new → Reads file seen2 (λ files. meant files >>= after) old (Err e) new
reads_on file seen seen2 meant after old new err.Memory x = x
reads_on file seen seen2 meant after old new (err.Stopped fault.NotRead) x = x
reads_on file seen seen2 meant after old new (err.Stopped fault.TooLong) x = (x.0, λ files t. rw (x.1 files t) refl)
reads_on file seen seen2 meant after old new (err.Stopped (fault.Refused why)) x = (x.0, λ files t. rw (x.1 files t) refl)

-- what was not fetched is not read
pub reads_failed : {X Y Z W : Type 0} (file : NamedFile) (seen : X → Y) (seen2 : Z → W) (meant : Files → Result Y FileFault) (after : Y → Result W FileFault) (old new : Shelved) (r : Result X FileErr) (q : Result Z FileErr) (e : FileErr)
    → r ≡ Err e → IsErrAnd q (λ y. y ≡ e) → Reads file seen meant old r new → Reads file seen2 (λ files. meant files >>= after) old q new
reads_failed file seen seen2 meant after old new r q e same k x =
    let p = err_from_is_err_and q k in
    let xx : Reads file seen meant old (Err e) new = rw same at x in
    rw (p.1 ∙ ap Err p.2) (reads_on file seen seen2 meant after old new e xx)

-- a reader accepts what was fetched
pub reads_ok : {X Z W : Type 0} (file : NamedFile) (seen : X → Text) (seen2 : Z → W) (read : Text → Result W Refusal) (old new : Shelved) (r : Result X FileErr) (x : X) (z : Z) → r ≡ Ok x → Reads file seen (λ files. bytes_of file.0 (files file.1)) old r new
    → read (seen x) ≡ Ok (seen2 z) → Reads file seen2 (file_in read file) old (Ok z) new
reads_ok file seen seen2 read old new r x z same h e =
    let k : Reads file seen (λ files. bytes_of file.0 (files file.1)) old (Ok x) new = rw same at h in
    (k.0, λ files t. rw (k.1 files t, e) refl)

reads_refused : {X Z W : Type 0} (file : NamedFile) (seen : X → Text) (seen2 : Z → W) (read : Text → Result W Refusal) (old new : Shelved) (x : X) (f : InputFault) → Reads file seen (λ files. bytes_of file.0 (files file.1)) old (Ok x) new
    → Fails f (read (seen x)) → Reads file seen2 (file_in read file) old (Err (err_of f)) new
reads_refused file seen seen2 read old new x Memory k e = asks_all (file ∷ []) old new k.0
reads_refused file seen seen2 read old new x (Refused why) k e = (k.0, λ files t. rw (k.1 files t, e) refl)

-- a reader refuses what was fetched
pub reads_fault : {X Z W : Type 0} (file : NamedFile) (seen : X → Text) (seen2 : Z → W) (read : Text → Result W Refusal) (old new : Shelved) (r : Result X FileErr) (q : Result Z FileErr) (x : X) (f : InputFault) → r ≡ Ok x → IsErrAnd q (λ y. y ≡ err_of f)
    → Reads file seen (λ files. bytes_of file.0 (files file.1)) old r new → Fails f (read (seen x)) → Reads file seen2 (file_in read file) old q new
reads_fault file seen seen2 read old new r q x f same k h e =
    let p = err_from_is_err_and q k in
    let kk : Reads file seen (λ files. bytes_of file.0 (files file.1)) old (Ok x) new = rw same at h in
    rw (p.1 ∙ ap Err p.2) (reads_refused file seen seen2 read old new x f kk e)
