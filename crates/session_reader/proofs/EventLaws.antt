-- Events: what is read is of the form and spelled so, and what is of the form is read from its spelling.
use Rattle.std.proofs.Common.{◌≡◌, ◌∙◌, ◌≤◌, ◌==◌, ◌++◌, ℕ, zero, suc, List, [], ◌∷◌, Bool, true, false, Result, Ok, Err, codes, if◌then◌else◌, length, map, refl, sym, ap, subst, append_assoc, arith, lit<, lit≤}
use Rattle.std.specs.List.{All}
use Rattle.std.specs.Fmt.{decimal}
use Rattle.std.proofs.lemmas.List.Elements.{All-cons, All-head, All-nil, All-tail}
use Rattle.lab_model.proofs.Steps.{then_ok}
use Rattle.lab_model.specs.declared.fault.Refusal.{Refusal}
use Rattle.lab_io.specs.Sink.{Text}
use Rattle.lab_io.specs.Number.{numeral}
use Rattle.lab_io.specs.Piece.{fields_line, later_fields}
use Rattle.labels.specs.Form.{HasDigits, rung_digits}
use Rattle.player_core.specs.declared.session.Event.{Event}
use Rattle.player_core.specs.declared.session.Event.TheVariants as event
use Rattle.session_report.specs.Session.{event_fields}
use Rattle.certificate_text.specs.Fields.{Read, line_refusal, read_number, read_word}
use Rattle.certificate_text.specs.Line.{Holds, Line, Values, ends, field_count, fields_of, number, read_line, stop_of, word}
use Rattle.certificate_text.specs.Spelling.{lines_text}
use Rattle.certificate_text.proofs.FieldLaws.{field_again, number_again, word_takes}
use Rattle.certificate_text.proofs.Loops.{ok_is}
use Rattle.certificate_text.proofs.LineLaws.{IsSpellable, line_again, line_takes}
use Rattle.session_reader.specs.Form.{IsToldBy}
use Rattle.session_reader.specs.Grammar.{abandon_line, arrive_line, at_line, bits_digits, end_event_line, part_digits, play_line, request_line, seek_line, segment_digits, stall_line, time_digits}
use Rattle.session_reader.specs.Reading.{abandon_event, arrive_event, end_event, event_before, if_read, or_else, play_event, read_line_as, read_event, read_events, request_event, seek_event, stall_event}

-- ---- what was read

-- what was read as an event: its line can hold it, and spells it
pub record TakesEvent (bytes : Text) (x : Event × Text) : Type 0 where
  pub told : IsToldBy x.0
  pub text : bytes ≡ fields_line (event_fields x.0) ++ x.1

-- a reading by a form whose values are those of an event
as_takes : (line : Line) (make : Values line → Event) → IsSpellable line → 1 ≤ field_count line → ((v : Values line) → Holds line v → IsToldBy (make v)) → ((v : Values line) → fields_of line v ≡ event_fields (make v))
    → (row : ℕ) (bytes : Text) (x : Event × Text) → read_line_as line make row bytes ≡ Ok x → TakesEvent bytes x
as_takes line make can some told same row bytes x h =
    let r = then_ok (read_line row line bytes) (λ y. Ok (make y.0, y.1)) x h in
    let t = line_takes row line bytes r.0 can some r.1 in
    subst (TakesEvent bytes) (ok_is (make r.0.0, r.0.1) x r.2) (record {
      told = told r.0.0 t.holds;
      text = t.text ∙ ap (λ (fs : List Text). fields_line fs ++ r.0.1) (same r.0.0);
    })

can_request : IsSpellable request_line
can_request = ((lit≤ tt, lit≤ tt), (refl, ((lit≤ tt, lit≤ tt), ((lit≤ tt, lit≤ tt), tt))))

can_arrive : IsSpellable arrive_line
can_arrive = ((lit≤ tt, lit≤ tt), (refl, ((lit≤ tt, lit≤ tt), ((lit≤ tt, lit≤ tt), (refl, ((lit≤ tt, lit≤ tt), (refl, ((lit≤ tt, lit≤ tt), tt))))))))

can_abandon : IsSpellable abandon_line
can_abandon = ((lit≤ tt, lit≤ tt), (refl, ((lit≤ tt, lit≤ tt), ((lit≤ tt, lit≤ tt), (refl, ((lit≤ tt, lit≤ tt), (refl, ((lit≤ tt, lit≤ tt), tt))))))))

can_seek : IsSpellable seek_line
can_seek = ((lit≤ tt, lit≤ tt), (refl, ((lit≤ tt, lit≤ tt), (refl, ((lit≤ tt, lit≤ tt), tt)))))

can_play : IsSpellable play_line
can_play = ((lit≤ tt, lit≤ tt), (refl, ((lit≤ tt, lit≤ tt), ((lit≤ tt, lit≤ tt), tt))))

can_stall : IsSpellable stall_line
can_stall = ((lit≤ tt, lit≤ tt), (refl, tt))

can_end : IsSpellable end_event_line
can_end = ((lit≤ tt, lit≤ tt), (refl, tt))

-- the first of two readings that goes well
else_takes : (bytes : Text) (x : Event × Text) (one other : Read Event) → ((y : Event × Text) → one ≡ Ok y → TakesEvent bytes y) → (other ≡ Ok x → TakesEvent bytes x) → or_else one other ≡ Ok x → TakesEvent bytes x
else_takes bytes x (Ok y) other first later h = first x h
else_takes bytes x (Err e) other first later h = later h

-- an event that was read stands in its line
pub event_takes : (row : ℕ) (bytes : Text) (x : Event × Text) → read_event row bytes ≡ Ok x → TakesEvent bytes x
unfolding read_event
event_takes row bytes x h =
    let one = read_line_as request_line request_event row bytes in
    let two = read_line_as arrive_line arrive_event row bytes in
    let three = read_line_as abandon_line abandon_event row bytes in
    let four = read_line_as seek_line seek_event row bytes in
    let five = read_line_as play_line play_event row bytes in
    let six = read_line_as stall_line stall_event row bytes in
    let seven = read_line_as end_event_line end_event row bytes in
    else_takes bytes x one (or_else two (or_else three (or_else four (or_else five (or_else six seven))))) (as_takes request_line request_event can_request (lit≤ tt) (λ v held. held) (λ v. refl) row bytes)
    (λ b. else_takes bytes x two (or_else three (or_else four (or_else five (or_else six seven)))) (as_takes arrive_line arrive_event can_arrive (lit≤ tt) (λ v held. held) (λ v. refl) row bytes)
    (λ c. else_takes bytes x three (or_else four (or_else five (or_else six seven))) (as_takes abandon_line abandon_event can_abandon (lit≤ tt) (λ v held. held) (λ v. refl) row bytes)
    (λ d. else_takes bytes x four (or_else five (or_else six seven)) (as_takes seek_line seek_event can_seek (lit≤ tt) (λ v held. held) (λ v. refl) row bytes)
    (λ e. else_takes bytes x five (or_else six seven) (as_takes play_line play_event can_play (lit≤ tt) (λ v held. held) (λ v. refl) row bytes)
    (λ f. else_takes bytes x six seven (as_takes stall_line stall_event can_stall (lit≤ tt) (λ v held. held) (λ v. refl) row bytes)
    (λ g. as_takes end_event_line end_event can_end (lit≤ tt) (λ v held. held) (λ v. refl) row bytes x g) f) e) d) c) b) h

-- ---- what is read again

-- nothing is read
abbrev pub Refuses : {X : Type 0} → Result X Refusal → Type 0
Refuses r = (e : Refusal) × (r ≡ Err e)

-- the bytes go on otherwise than the word
abbrev differs : Text → Text → Bool
differs [] bytes = false
differs (w ∷ ws) [] = false
differs (w ∷ ws) (b ∷ bs) = if w == b then differs ws bs else true

same_goes_on : (w rest : Text) → differs w (w ++ rest) ≡ true → ⊥
same_goes_on [] rest h = absurd cc
same_goes_on (c ∷ cs) rest h = same_goes_on cs rest (go (c == c) (same c) h)
  where
    same : (n : ℕ) → (n == n) ≡ true
    same n = grind (arith)

    go : (b : Bool) → b ≡ true → (if b then differs cs (cs ++ rest) else true) ≡ true → differs cs (cs ++ rest) ≡ true
    go true e k = k
    go false e k = absurd cc

word_refuses : (row : ℕ) (text : Text) (stop : ℕ) (bytes : Text) → differs text bytes ≡ true → Refuses (read_word row text stop bytes)
word_refuses row text stop bytes d = go (read_word row text stop bytes) refl
  where
    go : (r : Result Text Refusal) → read_word row text stop bytes ≡ r → Refuses r
    go (Ok rest) h = absurd (same_goes_on text (stop ∷ rest) (subst (λ (t : Text). differs text t ≡ true) (word_takes row text stop bytes rest h) d))
    go (Err e) h = (e, refl)

-- a line of an event that begins with an instant and another word
refuses : (row : ℕ) (text : Text) (more : Line) (make : Values (at_line (word text more)) → Event) (bytes : Text) (at : ℕ) (behind : Text) → bytes ≡ decimal at ++ 32 ∷ behind → HasDigits time_digits at → differs text behind ≡ true
    → Refuses (read_line_as (at_line (word text more)) make row bytes)
unfolding read_line
refuses row text more make bytes at behind e held d =
    let w = word_refuses row text (stop_of more) behind d in
    let n : read_number row time_digits 32 bytes ≡ Ok (at, behind) = ap (read_number row time_digits 32) e ∙ number_again row time_digits 32 at behind (lit≤ tt) (lit≤ tt) (lit< tt) held in
    (w.0, rw (n, w.1) refl)

not_request : (row : ℕ) (bytes : Text) (at : ℕ) (behind : Text) → bytes ≡ decimal at ++ 32 ∷ behind → HasDigits time_digits at → differs (codes "request") behind ≡ true → Refuses (read_line_as request_line request_event row bytes)
not_request row = refuses row (codes "request") (number segment_digits (number rung_digits ends)) request_event

not_arrive : (row : ℕ) (bytes : Text) (at : ℕ) (behind : Text) → bytes ≡ decimal at ++ 32 ∷ behind → HasDigits time_digits at → differs (codes "arrive") behind ≡ true → Refuses (read_line_as arrive_line arrive_event row bytes)
not_arrive row = refuses row (codes "arrive") (number segment_digits (number rung_digits (word (codes "first") (number time_digits (word (codes "rate") (number bits_digits ends)))))) arrive_event

not_abandon : (row : ℕ) (bytes : Text) (at : ℕ) (behind : Text) → bytes ≡ decimal at ++ 32 ∷ behind → HasDigits time_digits at → differs (codes "abandon") behind ≡ true → Refuses (read_line_as abandon_line abandon_event row bytes)
not_abandon row = refuses row (codes "abandon") (number segment_digits (number rung_digits (word (codes "to") (number rung_digits (word (codes "got") (number part_digits ends)))))) abandon_event

not_seek : (row : ℕ) (bytes : Text) (at : ℕ) (behind : Text) → bytes ≡ decimal at ++ 32 ∷ behind → HasDigits time_digits at → differs (codes "seek") behind ≡ true → Refuses (read_line_as seek_line seek_event row bytes)
not_seek row = refuses row (codes "seek") (number segment_digits (word (codes "wasted") (number bits_digits ends))) seek_event

not_play : (row : ℕ) (bytes : Text) (at : ℕ) (behind : Text) → bytes ≡ decimal at ++ 32 ∷ behind → HasDigits time_digits at → differs (codes "play") behind ≡ true → Refuses (read_line_as play_line play_event row bytes)
not_play row = refuses row (codes "play") (number segment_digits (number rung_digits ends)) play_event

not_stall : (row : ℕ) (bytes : Text) (at : ℕ) (behind : Text) → bytes ≡ decimal at ++ 32 ∷ behind → HasDigits time_digits at → differs (codes "stall") behind ≡ true → Refuses (read_line_as stall_line stall_event row bytes)
not_stall row = refuses row (codes "stall") ends stall_event

skipped : (one other final : Read Event) → Refuses one → other ≡ final → or_else one other ≡ final
skipped one other final r e = rw r.1 e

taken : (one other : Read Event) (x : Event × Text) → one ≡ Ok x → or_else one other ≡ Ok x
taken one other x e = rw e refl

as_again : (line : Line) (make : Values line → Event) (row : ℕ) (v : Values line) (rest : Text) → IsSpellable line → 1 ≤ field_count line → Holds line v → read_line_as line make row (fields_line (fields_of line v) ++ rest) ≡ Ok (make v, rest)
as_again line make row v rest can some held = rw (line_again row line v rest can some held) refl

-- an event is read from its line
pub event_again : (row : ℕ) (e : Event) (rest : Text) → IsToldBy e → read_event row (fields_line (event_fields e) ++ rest) ≡ Ok (e, rest)
unfolding read_event
event_again row (event.Request at segment rung) rest told = taken _ _ _ (as_again request_line request_event row (at, (segment, (rung, tt))) rest can_request (lit≤ tt) told)
event_again row (event.Arrive at segment rung first rate) rest told =
    let fields = codes "arrive" ∷ decimal segment ∷ decimal rung ∷ codes "first" ∷ decimal first ∷ codes "rate" ∷ decimal rate ∷ [] in
    let bytes = fields_line (decimal at ∷ fields) ++ rest in
    let e : bytes ≡ decimal at ++ (later_fields fields ++ rest) = append_assoc (decimal at) (later_fields fields) rest in
    skipped _ _ _ (not_request row bytes at _ e told.0 refl)
    (taken _ _ _ (as_again arrive_line arrive_event row (at, (segment, (rung, (first, (rate, tt))))) rest can_arrive (lit≤ tt) told))
event_again row (event.Abandon at segment rung to got) rest told =
    let fields = codes "abandon" ∷ decimal segment ∷ decimal rung ∷ codes "to" ∷ decimal to ∷ codes "got" ∷ decimal got ∷ [] in
    let bytes = fields_line (decimal at ∷ fields) ++ rest in
    let e : bytes ≡ decimal at ++ (later_fields fields ++ rest) = append_assoc (decimal at) (later_fields fields) rest in
    skipped _ _ _ (not_request row bytes at _ e told.0 refl)
    (skipped _ _ _ (not_arrive row bytes at _ e told.0 refl)
    (taken _ _ _ (as_again abandon_line abandon_event row (at, (segment, (rung, (to, (got, tt))))) rest can_abandon (lit≤ tt) told)))
event_again row (event.Seek at to wasted) rest told =
    let fields = codes "seek" ∷ decimal to ∷ codes "wasted" ∷ decimal wasted ∷ [] in
    let bytes = fields_line (decimal at ∷ fields) ++ rest in
    let e : bytes ≡ decimal at ++ (later_fields fields ++ rest) = append_assoc (decimal at) (later_fields fields) rest in
    skipped _ _ _ (not_request row bytes at _ e told.0 refl)
    (skipped _ _ _ (not_arrive row bytes at _ e told.0 refl)
    (skipped _ _ _ (not_abandon row bytes at _ e told.0 refl)
    (taken _ _ _ (as_again seek_line seek_event row (at, (to, (wasted, tt))) rest can_seek (lit≤ tt) told))))
event_again row (event.Play at segment rung) rest told =
    let fields = codes "play" ∷ decimal segment ∷ decimal rung ∷ [] in
    let bytes = fields_line (decimal at ∷ fields) ++ rest in
    let e : bytes ≡ decimal at ++ (later_fields fields ++ rest) = append_assoc (decimal at) (later_fields fields) rest in
    skipped _ _ _ (not_request row bytes at _ e told.0 refl)
    (skipped _ _ _ (not_arrive row bytes at _ e told.0 refl)
    (skipped _ _ _ (not_abandon row bytes at _ e told.0 refl)
    (skipped _ _ _ (not_seek row bytes at _ e told.0 refl)
    (taken _ _ _ (as_again play_line play_event row (at, (segment, (rung, tt))) rest can_play (lit≤ tt) told)))))
event_again row (event.Stall at) rest told =
    let fields = codes "stall" ∷ [] in
    let bytes = fields_line (decimal at ∷ fields) ++ rest in
    let e : bytes ≡ decimal at ++ (later_fields fields ++ rest) = append_assoc (decimal at) (later_fields fields) rest in
    skipped _ _ _ (not_request row bytes at _ e told.0 refl)
    (skipped _ _ _ (not_arrive row bytes at _ e told.0 refl)
    (skipped _ _ _ (not_abandon row bytes at _ e told.0 refl)
    (skipped _ _ _ (not_seek row bytes at _ e told.0 refl)
    (skipped _ _ _ (not_play row bytes at _ e told.0 refl)
    (taken _ _ _ (as_again stall_line stall_event row (at, tt) rest can_stall (lit≤ tt) told))))))
event_again row (event.End at) rest told =
    let fields = codes "end" ∷ [] in
    let bytes = fields_line (decimal at ∷ fields) ++ rest in
    let e : bytes ≡ decimal at ++ (later_fields fields ++ rest) = append_assoc (decimal at) (later_fields fields) rest in
    skipped _ _ _ (not_request row bytes at _ e told.0 refl)
    (skipped _ _ _ (not_arrive row bytes at _ e told.0 refl)
    (skipped _ _ _ (not_abandon row bytes at _ e told.0 refl)
    (skipped _ _ _ (not_seek row bytes at _ e told.0 refl)
    (skipped _ _ _ (not_play row bytes at _ e told.0 refl)
    (skipped _ _ _ (not_stall row bytes at _ e told.0 refl)
    (as_again end_event_line end_event row (at, tt) rest can_end (lit≤ tt) told))))))

-- ---- events in a row

-- what was read as events, so many at most
pub record TakesEvents (most : ℕ) (bytes : Text) (x : List Event × Text) : Type 0 where
  pub told : All IsToldBy x.0
  pub few : length x.0 ≤ most
  pub text : bytes ≡ lines_text (map event_fields x.0) ++ x.1

-- an event, where there is one, and those behind it
one_more : (more : ℕ) (bytes : Text) (later : (rest : Text) → TakesEvents more rest (read_events more rest)) (r : Read Event) → read_event 1 bytes ≡ r
    → TakesEvents (suc more) bytes (if_read r (λ x. event_before x.0 (read_events more x.1)) ([], bytes))
one_more more bytes later (Ok x) h =
    let own = event_takes 1 bytes x h in
    let others = later x.1 in
    let es = read_events more x.1 in
    record {
      told = All-cons IsToldBy x.0 es.0 own.told others.told;
      few = omega (arith, others.few);
      text = own.text ∙ ap (λ (t : Text). fields_line (event_fields x.0) ++ t) others.text ∙ sym (append_assoc (fields_line (event_fields x.0)) (lines_text (map event_fields es.0)) es.1);
    }
one_more more bytes later (Err e) h = record { told = All-nil IsToldBy; few = omega arith; text = refl }

-- events that were read stand in their lines
pub events_take : (most : ℕ) (bytes : Text) → TakesEvents most bytes (read_events most bytes)
unfolding read_events
events_take zero bytes = record { told = All-nil IsToldBy; few = omega arith; text = refl }
events_take (suc more) bytes = one_more more bytes (λ rest. events_take more rest) (read_event 1 bytes) refl

-- events are read from their lines, up to a line that is none
pub events_again : (most : ℕ) (es : List Event) (rest : Text) → length es ≤ most → All IsToldBy es → Refuses (read_event 1 rest) → read_events most (lines_text (map event_fields es) ++ rest) ≡ (es, rest)
unfolding read_events
events_again zero [] rest few told none = refl
events_again (suc more) [] rest few told none = rw none.1 refl
events_again zero (e ∷ es) rest few told none = absurd (omega (arith, few))
events_again (suc more) (e ∷ es) rest few told none =
    let later = lines_text (map event_fields es) ++ rest in
    ap (read_events (suc more)) (append_assoc (fields_line (event_fields e)) (lines_text (map event_fields es)) rest)
    ∙ rw (event_again 1 e later (All-head IsToldBy e es told), events_again more es rest (omega (arith, few)) (All-tail IsToldBy e es told) none) refl

-- ---- a line that is none

not_number : (row : ℕ) (rest : Text) → read_number row time_digits 32 (codes "startup" ++ 32 ∷ rest) ≡ Err (line_refusal row)
unfolding read_number numeral
not_number row rest = rw (field_again row 32 (codes "startup") rest refl) refl

no_instant : (row : ℕ) (more : Line) (make : Values (at_line more) → Event) (bytes : Text) (e : Refusal) → stop_of more ≡ 32 → read_number row time_digits 32 bytes ≡ Err e → Refuses (read_line_as (at_line more) make row bytes)
unfolding read_line
no_instant row more make bytes e stop h = (e, rw (stop, h) refl)

-- a line that begins with the word of the first counter is no event
pub no_event : (row : ℕ) (rest : Text) → Refuses (read_event row (codes "startup" ++ 32 ∷ rest))
unfolding read_event
no_event row rest =
    let bytes = codes "startup" ++ 32 ∷ rest in
    let h = not_number row rest in
    let last = no_instant row (word (codes "end") ends) end_event bytes (line_refusal row) refl h in (
      last.0,
      skipped _ _ _ (no_instant row (word (codes "request") (number segment_digits (number rung_digits ends))) request_event bytes (line_refusal row) refl h)
          (skipped _ _ _ (no_instant row (word (codes "arrive") (number segment_digits (number rung_digits (word (codes "first") (number time_digits (word (codes "rate") (number bits_digits ends))))))) arrive_event bytes (line_refusal row) refl h)
          (skipped _ _ _ (no_instant row (word (codes "abandon") (number segment_digits (number rung_digits (word (codes "to") (number rung_digits (word (codes "got") (number part_digits ends))))))) abandon_event bytes (line_refusal row) refl h)
          (skipped _ _ _ (no_instant row (word (codes "seek") (number segment_digits (word (codes "wasted") (number bits_digits ends)))) seek_event bytes (line_refusal row) refl h)
          (skipped _ _ _ (no_instant row (word (codes "play") (number segment_digits (number rung_digits ends))) play_event bytes (line_refusal row) refl h)
          (skipped _ _ _ (no_instant row (word (codes "stall") ends) stall_event bytes (line_refusal row) refl h)
          last.1))))),
    )
