-- How commands with a choice ended, by what they chose.
use Rattle.std.proofs.Common.{◌≡◌, Bool, List, [], Option, Some, None, Result, Ok, Err, subst}
use Rattle.std.specs.List.{slice_get}
use Rattle.std.specs.Result.{IsErrAnd}
use Rattle.std.proofs.lemmas.Result.{err_from_is_err_and}
use Rattle.lab_io.specs.Shelf.{Shelved}
use Rattle.lab_io.specs.Sink.{Seen, Text}
use Rattle.lab_model.specs.declared.trace.Period.{Period}
use Rattle.lab_words.specs.Command.{CommandWords}
use Rattle.lab_inputs.specs.declared.stop.Halt.{Halt}
use Rattle.lab_inputs.specs.declared.stop.Halt.TheVariants as halt
use Rattle.lab_inputs.specs.Files.{Files}
use Rattle.lab_inputs.specs.Inputs.{InputValues, inputs_of}
use Rattle.lab_inputs.specs.Roles.{film_files}
use Rattle.lab_inputs.specs.Stages.{Comes, Tells}
use Rattle.lab_inputs.proofs.Steps.{ok_same}
use Rattle.price_bounds.specs.Verdict.{PriceParts}
use Rattle.abrlab_top.specs.declared.ending.Ending.{Ending}
use Rattle.abrlab_top.specs.declared.ending.Ending.TheVariants as ending
use Rattle.abrlab_top.specs.Choice.{AreBounds, HasText, IsNearBest, no_choice}
use Rattle.abrlab_top.specs.Chosen.{EndsNear, EndsWithBounds, IsNearOn, WritesBounds, WritesNear}
use Rattle.abrlab_top.specs.Ending.{after_halt, ended}
use Rattle.abrlab_top.specs.Near.{near_plan}
use Rattle.abrlab_top.specs.Plan.{task_on}
use Rattle.abrlab_top.specs.Regret.{near_regret}
use Rattle.abrlab_top.specs.Stages.{Writes, at_the_end}
use Rattle.abrlab_top.proofs.Whole.{about_ends, exit, read_failed}

some_same : {A : Type 0} {o : Option A} {x y : A} → o ≡ Some x → o ≡ Some y → x ≡ y
some_same e h = cc

-- an ending that no reading gives has a text
no_text : (h : Halt) → HasText (after_halt h) → ⊥
no_text (halt.Stopped why) x = x
no_text halt.NoMemory x = x

no_text_at : (q : Result (Unit {0}) Ending) (e : Ending) → IsErrAnd q (λ y. y ≡ e) → (HasText e → ⊥) → HasText (ended q) → ⊥
no_text_at q e k none x =
    let p = err_from_is_err_and q k in
    none (subst HasText p.2 (subst (λ r. HasText (ended r)) p.1 x))

-- what two readings of the same files gave is the same
same_read : (c : CommandWords) (old new : Shelved) (i j : InputValues) (files : Files) → Comes (film_files c) (λ (i : InputValues). i) (inputs_of c) old (Ok i) new → Tells old files → inputs_of c files ≡ Ok j → i ≡ j
same_read c old new i j files read t e = ok_same (inputs_of c files) i j (read.1 files t) e

-- ---- regrets

-- the command ended before it had a text
pub bounds_unwritten : (i : InputValues) (old new : Seen) (q : Result (Unit {0}) Ending) (e : Ending) → IsErrAnd q (λ y. y ≡ e) → (HasText e → ⊥) → Writes at_the_end (near_regret [] i) old e new → WritesBounds i old (ended q) new
bounds_unwritten i old new q e k none w = record {
  bounds = [];
  are = λ x. absurd (no_text_at q e k none x);
  writes = exit at_the_end (near_regret [] i) old new q e k w;
}

-- its files were not read
pub bounds_unread : (c : CommandWords) (old new : Shelved) (out : Seen) (r : Result InputValues Halt) (q : Result (Unit {0}) Ending) (h : Halt) → r ≡ Err h → IsErrAnd q (λ y. y ≡ after_halt h)
    → Comes (film_files c) (λ (i : InputValues). i) (inputs_of c) old r new → EndsWithBounds c old out (ended q) new out
bounds_unread c old new out r q h e k x = record {
  bounds = [];
  are = λ files t some. absurd (no_text_at q (after_halt h) k (no_text h) some);
  ends = read_failed at_the_end (near_regret []) c old new out r q h e k x;
}

-- its files were read
pub bounds_ended : (c : CommandWords) (i : InputValues) (old new : Shelved) (out out2 : Seen) (e : Ending) → Comes (film_files c) (λ (i : InputValues). i) (inputs_of c) old (Ok i) new → WritesBounds i out e out2 → EndsWithBounds c old out e new out2
bounds_ended c i old new out out2 e read w = record {
  bounds = w.bounds;
  are = λ files t some j is. subst (λ (v : InputValues). AreBounds v v.networks w.bounds) (same_read c old new i j files read t is) (w.are some);
  ends = about_ends at_the_end (near_regret w.bounds) c i old new out out2 e (λ r h. cc) read w.writes;
}

-- ---- plans

-- the command ended before it had a text, or with no network named
pub near_unwritten : (whole : Bool) (i : InputValues) (old new : Seen) (q : Result (Unit {0}) Ending) (e : Ending) → IsErrAnd q (λ y. y ≡ e) → (HasText e → ⊥) → Writes at_the_end (near_plan whole no_choice.certificate i) old e new
    → WritesNear whole i old (ended q) new
near_unwritten whole i old new q e k none w = record {
  certificate = no_choice.certificate;
  is = λ x. absurd (no_text_at q e k none x);
  writes = exit at_the_end (near_plan whole no_choice.certificate i) old new q e k w;
}

-- no network is named
pub near_of_none : (whole : Bool) (i : InputValues) (old : Seen) → slice_get i.networks 0 ≡ None → Writes at_the_end (near_plan whole no_choice.certificate i) old ending.Done old → WritesNear whole i old ending.Done old
near_of_none whole i old e w = record { certificate = no_choice.certificate; is = λ x n h. cc; writes = w }

-- what was found is of the network that is named
pub near_on : (i : InputValues) (n : Text × List Period) (p : PriceParts) → slice_get i.networks 0 ≡ Some n → IsNearBest (task_on i n.1) p → IsNearOn i p
near_on i n p e found other h = let same : n ≡ other = some_same e h in subst (λ (m : Text × List Period). IsNearBest (task_on i m.1) p) same found

-- its files were not read
pub near_unread : (whole : Bool) (c : CommandWords) (old new : Shelved) (out : Seen) (r : Result InputValues Halt) (q : Result (Unit {0}) Ending) (h : Halt) → r ≡ Err h → IsErrAnd q (λ y. y ≡ after_halt h)
    → Comes (film_files c) (λ (i : InputValues). i) (inputs_of c) old r new → EndsNear whole c old out (ended q) new out
near_unread whole c old new out r q h e k x = record {
  certificate = no_choice.certificate;
  is = λ files t some. absurd (no_text_at q (after_halt h) k (no_text h) some);
  ends = read_failed at_the_end (near_plan whole no_choice.certificate) c old new out r q h e k x;
}

-- its files were read
pub near_ended : (whole : Bool) (c : CommandWords) (i : InputValues) (old new : Shelved) (out out2 : Seen) (e : Ending) → Comes (film_files c) (λ (i : InputValues). i) (inputs_of c) old (Ok i) new → WritesNear whole i out e out2 → EndsNear whole c old out e new out2
near_ended whole c i old new out out2 e read w = record {
  certificate = w.certificate;
  is = λ files t some j is. subst (λ (v : InputValues). IsNearOn v w.certificate) (same_read c old new i j files read t is) (w.is some);
  ends = about_ends at_the_end (near_plan whole w.certificate) c i old new out out2 e (λ r h. cc) read w.writes;
}
