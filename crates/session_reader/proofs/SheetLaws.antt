-- Sessions: what is read has a text and is spelled so, and what has a text is read from it.
use Rattle.std.proofs.Common.{◌≡◌, ◌∙◌, ◌+◌, ◌<◌, ◌≤◌, ◌^◌, ◌++◌, ℕ, zero, suc, List, [], ◌∷◌, Bool, true, false, Result, Ok, Err, codes, if◌then◌else◌, get_or, length, map, refl, sym, ap, subst, append_assoc, append-nil, arith, lit<, lit≤}
use Rattle.std.specs.Prelude.{IfOk}
use Rattle.std.specs.List.{All}
use Rattle.std.specs.Fmt.{decimal}
use Rattle.std.proofs.lemmas.Bool.Decides.{nat_tests}
use Rattle.std.proofs.lemmas.List.Elements.{All-cons, All-head, All-nil, All-tail}
use Rattle.std.proofs.lemmas.List.Folds.{flat_map-map}
use Rattle.lab_model.proofs.Steps.{then_ok}
use Rattle.lab_model.specs.Steps.{◌>>=◌}
use Rattle.lab_model.specs.Weighing.{Weighing}
use Rattle.lab_model.specs.Reading.{Gives}
use Rattle.lab_model.specs.declared.fault.InputFault.{InputFault}
use Rattle.lab_model.specs.declared.fault.Refusal.{Refusal}
use Rattle.lab_io.specs.Sink.{Text}
use Rattle.lab_io.specs.Piece.{fields_line, later_fields}
use Rattle.lab_io.proofs.Numbers.{decimal-spelling, digit_at}
use Rattle.labels.specs.Form.{HasDigits, place_digits}
use Rattle.player_core.specs.declared.session.Event.{Event}
use Rattle.player_core.specs.declared.session.Event.TheVariants as event
use Rattle.player_core.specs.Session.{Shown}
use Rattle.session_report.specs.Session.{event_fields, session_text}
use Rattle.certificate_text.specs.Grammar.{score_line}
use Rattle.certificate_text.specs.Line.{fields_of, read_line}
use Rattle.certificate_text.specs.Reading.{read_nothing}
use Rattle.certificate_text.specs.Spelling.{lines_text}
use Rattle.certificate_text.proofs.FieldLaws.{is_free}
use Rattle.certificate_text.proofs.HeadLaws.{can_score}
use Rattle.certificate_text.proofs.LineLaws.{IsSpellable, line_again, line_takes}
use Rattle.certificate_text.proofs.Loops.{ok_is}
use Rattle.session_reader.specs.declared.told.Counters.{Counters}
use Rattle.session_reader.specs.declared.told.Sheet.{Sheet}
use Rattle.session_reader.specs.Form.{AreTold, IsTelling, IsToldBy, Telling, Tellings, alone, line_count, most_events, most_players, telling_of, tellings}
use Rattle.session_reader.specs.Grammar.{bits_digits, counter_line, part_digits, told_player_line, time_digits}
use Rattle.session_reader.specs.Reading.{HasToldText, IsCount, begins_players, read_alone, read_counters, read_events, read_players, read_telling, sheet_of}
use Rattle.session_reader.specs.Spelling.{told_counter, told_counters, told_players_text, sheet_text, telling_text, text_by}
use Rattle.session_reader.proofs.EventLaws.{events_again, events_take, no_event}

-- ---- steps and lines

-- a step that goes well, and what follows it
then_is : {A B : Type 0} (r : Result A Refusal) (f : A → Result B Refusal) (x : A) (y : Result B Refusal) → r ≡ Ok x → f x ≡ y → (r >>= f) ≡ y
then_is r f x y e h = rw e h

-- lines, and what stands behind them
abbrev lines_before : List (List Text) → Text → Text
lines_before [] rest = rest
lines_before (l ∷ ls) rest = fields_line l ++ lines_before ls rest

lines_behind : (ls : List (List Text)) (rest : Text) → lines_text ls ++ rest ≡ lines_before ls rest
lines_behind [] rest = refl
lines_behind (l ∷ ls) rest = append_assoc (fields_line l) (lines_text ls) rest ∙ ap (λ (t : Text). fields_line l ++ t) (lines_behind ls rest)

-- a line, and what is known of the bytes behind it
line_before : (line : List Text) (bytes rest later : Text) → bytes ≡ fields_line line ++ rest → rest ≡ later → bytes ≡ fields_line line ++ later
line_before line bytes rest later e f = e ∙ ap (λ (t : Text). fields_line line ++ t) f

-- ---- the counters

can_counter : (text : Text) (digits : ℕ) → is_free 32 text ≡ true → 1 ≤ digits → digits ≤ 64 → IsSpellable (counter_line text digits)
can_counter text digits free some short = (free, ((some, short), tt))

-- a counter that was read is spelled so
counter_takes : (row : ℕ) (text : Text) (digits : ℕ) (bytes : Text) (x : (ℕ × Unit {0}) × Text) → is_free 32 text ≡ true → 1 ≤ digits → digits ≤ 64
    → read_line row (counter_line text digits) bytes ≡ Ok x → HasDigits digits x.0.0 × (bytes ≡ fields_line (told_counter text digits x.0.0) ++ x.1)
counter_takes row text digits bytes x free some short h =
    let t = line_takes row (counter_line text digits) bytes x (can_counter text digits free some short) (lit≤ tt) h in
    (t.holds.0, t.text)

-- a counter is read from its line
counter_again : (row : ℕ) (text : Text) (digits n : ℕ) (rest : Text) → is_free 32 text ≡ true → 1 ≤ digits → digits ≤ 64 → HasDigits digits n
    → read_line row (counter_line text digits) (fields_line (told_counter text digits n) ++ rest) ≡ Ok ((n, tt), rest)
counter_again row text digits n rest free some short held = line_again row (counter_line text digits) (n, tt) rest (can_counter text digits free some short) (lit≤ tt) (held, tt)

-- what was read as counters
record TakesCounters (bytes : Text) (x : Counters × Text) : Type 0 where
  told : AreTold x.0
  text : bytes ≡ lines_text (told_counters x.0) ++ x.1

counters_take : (row : ℕ) (bytes : Text) (x : Counters × Text) → read_counters row bytes ≡ Ok x → TakesCounters bytes x
unfolding read_counters
counters_take row bytes x h =
    let a = then_ok _ _ x h in
    let b = then_ok _ _ x a.2 in
    let c = then_ok _ _ x b.2 in
    let d = then_ok _ _ x c.2 in
    let e = then_ok _ _ x d.2 in
    let f = then_ok _ _ x e.2 in
    let g = then_ok _ _ x f.2 in
    let ta = counter_takes row (codes "startup") time_digits bytes a.0 refl (lit≤ tt) (lit≤ tt) a.1 in
    let tb = counter_takes (row + 1) (codes "stall") time_digits a.0.1 b.0 refl (lit≤ tt) (lit≤ tt) b.1 in
    let tc = counter_takes (row + 2) (codes "stalls") part_digits b.0.1 c.0 refl (lit≤ tt) (lit≤ tt) c.1 in
    let td = counter_takes (row + 3) (codes "seeking") time_digits c.0.1 d.0 refl (lit≤ tt) (lit≤ tt) d.1 in
    let te = counter_takes (row + 4) (codes "wasted") bits_digits d.0.1 e.0 refl (lit≤ tt) (lit≤ tt) e.1 in
    let tf = counter_takes (row + 5) (codes "end") time_digits e.0.1 f.0 refl (lit≤ tt) (lit≤ tt) f.1 in
    let tg = line_takes (row + 6) score_line f.0.1 g.0 can_score (lit≤ tt) g.1 in
    let made : Counters = record { startup_ms = a.0.0.0; stall_ms = b.0.0.0; stalls = c.0.0.0; seek_ms = d.0.0.0; wasted_bits = e.0.0.0; end = f.0.0.0; score = g.0.0.0 } in
    subst (TakesCounters bytes) (ok_is (made, g.0.1) x g.2) (record {
      told = record { startup = ta.0; stall = tb.0; stalls = tc.0; seeking = td.0; wasted = te.0; end_at = tf.0; score = tg.holds.0 };
      text = line_before (told_counter (codes "startup") time_digits a.0.0.0) _ _ _ ta.1 (line_before (told_counter (codes "stall") time_digits b.0.0.0) _ _ _ tb.1 (line_before (told_counter (codes "stalls") part_digits c.0.0.0) _ _ _ tc.1 (line_before (told_counter (codes "seeking") time_digits d.0.0.0) _ _ _ td.1 (line_before (told_counter (codes "wasted") bits_digits e.0.0.0) _ _ _ te.1 (line_before (told_counter (codes "end") time_digits f.0.0.0) _ _ _ tf.1 tg.text)))))
          ∙ sym (lines_behind (told_counters made) g.0.1);
    })

counters_again : (row : ℕ) (c : Counters) (rest : Text) → AreTold c → read_counters row (lines_text (told_counters c) ++ rest) ≡ Ok (c, rest)
unfolding read_counters
counters_again row c rest told =
    ap (read_counters row) (lines_behind (told_counters c) rest)
    ∙ then_is _ _ _ _ (counter_again row (codes "startup") time_digits c.startup_ms _ refl (lit≤ tt) (lit≤ tt) told.startup)
    (then_is _ _ _ _ (counter_again (row + 1) (codes "stall") time_digits c.stall_ms _ refl (lit≤ tt) (lit≤ tt) told.stall)
    (then_is _ _ _ _ (counter_again (row + 2) (codes "stalls") part_digits c.stalls _ refl (lit≤ tt) (lit≤ tt) told.stalls)
    (then_is _ _ _ _ (counter_again (row + 3) (codes "seeking") time_digits c.seek_ms _ refl (lit≤ tt) (lit≤ tt) told.seeking)
    (then_is _ _ _ _ (counter_again (row + 4) (codes "wasted") bits_digits c.wasted_bits _ refl (lit≤ tt) (lit≤ tt) told.wasted)
    (then_is _ _ _ _ (counter_again (row + 5) (codes "end") time_digits c.end _ refl (lit≤ tt) (lit≤ tt) told.end_at)
    (then_is _ _ _ _ (line_again (row + 6) score_line (c.score, tt) rest can_score (lit≤ tt) (told.score, tt)) refl))))))

-- ---- a session

-- what was read as a session
record TakesTelling (bytes : Text) (x : Telling × Text) : Type 0 where
  is : IsTelling x.0
  text : bytes ≡ telling_text x.0 ++ x.1

telling_takes : (row : ℕ) (bytes : Text) (x : Telling × Text) → read_telling row bytes ≡ Ok x → TakesTelling bytes x
unfolding read_telling
telling_takes row bytes x h =
    let es = read_events most_events bytes in
    let te = events_take most_events bytes in
    let c = then_ok (read_counters (row + length es.0) es.1) _ x h in
    let tc = counters_take (row + length es.0) es.1 c.0 c.1 in
    let made : Telling = record { events = es.0; counters = c.0.0 } in
    subst (TakesTelling bytes) (ok_is (made, c.0.1) x c.2) (record {
      is = record { few = te.few; events = te.told; counters = tc.told };
      text = te.text ∙ ap (λ (t : Text). lines_text (map event_fields es.0) ++ t) tc.text ∙ sym (append_assoc (lines_text (map event_fields es.0)) (lines_text (told_counters c.0.0)) c.0.1);
    })

telling_again : (row : ℕ) (t : Telling) (rest : Text) → IsTelling t → read_telling row (telling_text t ++ rest) ≡ Ok (t, rest)
unfolding read_telling
telling_again row t rest is =
    let later = lines_text (told_counters t.counters) ++ rest in
    ap (read_telling row) (append_assoc (lines_text (map event_fields t.events)) (lines_text (told_counters t.counters)) rest)
    ∙ rw (events_again most_events t.events later is.few is.events (no_event 1 _)) (then_is _ _ _ _ (counters_again (row + length t.events) t.counters rest is.counters) refl)

-- ---- a session alone

nothing_takes : (row : ℕ) (bytes : Text) (u : Unit {0}) → read_nothing row bytes ≡ Ok u → bytes ≡ []
nothing_takes row [] u h = refl
nothing_takes row (b ∷ bytes) u h = absurd cc

-- what was read as sessions
pub record TakesSheet (bytes : Text) (s : Tellings) : Type 0 where
  pub has : HasToldText s
  pub text : bytes ≡ sheet_text s

alone_takes : (bytes : Text) (s : Tellings) → read_alone bytes ≡ Ok s → TakesSheet bytes s
unfolding read_alone sheet_text
alone_takes bytes s h =
    let t = then_ok (read_telling 1 bytes) _ s h in
    let d = then_ok (read_nothing (1 + line_count t.0.0) t.0.1) _ s t.2 in
    let own = telling_takes 1 bytes t.0 t.1 in
    subst (TakesSheet bytes) (ok_is (alone t.0.0) s d.2) (record {
      has = record { count = refl; sessions = All-cons IsTelling t.0.0 [] own.is (All-nil IsTelling) };
      text = own.text ∙ ap (λ (w : Text). telling_text t.0.0 ++ w) (nothing_takes (1 + line_count t.0.0) t.0.1 d.0 d.1);
    })

alone_again : (t : Telling) → IsTelling t → read_alone (telling_text t ++ []) ≡ Ok (alone t)
unfolding read_alone
alone_again t is = then_is _ _ _ _ (telling_again 1 t [] is) refl

-- ---- players

can_player : (n : ℕ) → IsSpellable (told_player_line n)
can_player n = (refl, tt)

-- what was read as the sessions of players, so many at most
record TakesPlayers (most n : ℕ) (bytes : Text) (ts : List Telling) : Type 0 where
  few : length ts ≤ most
  sessions : All IsTelling ts
  text : bytes ≡ told_players_text n ts

players_take : (most n row : ℕ) (bytes : Text) (ts : List Telling) → read_players most n row bytes ≡ Ok ts → TakesPlayers most n bytes ts
unfolding read_players
players_take most n row [] ts h = subst (TakesPlayers most n []) (ok_is [] ts h) (record { few = omega arith; sessions = All-nil IsTelling; text = refl })
players_take zero n row (b ∷ bytes) ts h = absurd cc
players_take (suc more) n row (b ∷ bytes) ts h =
    let p = then_ok (read_line row (told_player_line n) (b ∷ bytes)) _ ts h in
    let s = then_ok (read_telling (row + 1) p.0.1) _ ts p.2 in
    let o = then_ok (read_players more (n + 1) (row + 1 + line_count s.0.0) s.0.1) _ ts s.2 in
    let head = line_takes row (told_player_line n) (b ∷ bytes) p.0 (can_player n) (lit≤ tt) p.1 in
    let own = telling_takes (row + 1) p.0.1 s.0 s.1 in
    let others = players_take more (n + 1) (row + 1 + line_count s.0.0) s.0.1 o.0 o.1 in
    let line = fields_of (told_player_line n) tt in
    subst (TakesPlayers (suc more) n (b ∷ bytes)) (ok_is (s.0.0 ∷ o.0) ts o.2) (record {
      few = omega (arith, others.few);
      sessions = All-cons IsTelling s.0.0 o.0 own.is others.sessions;
      text = line_before line (b ∷ bytes) p.0.1 (telling_text s.0.0 ++ told_players_text (n + 1) o.0) head.text
          (own.text ∙ ap (λ (w : Text). telling_text s.0.0 ++ w) others.text)
          ∙ sym (lines_behind (line ∷ []) (telling_text s.0.0 ++ told_players_text (n + 1) o.0));
    })

-- a number that has no more digits than a place
fits_place : (n count : ℕ) → n + suc count ≤ 1000000 → HasDigits place_digits n
fits_place n count le = omega (arith, le, ten)
  where
    ten : 1000000 < 10 ^ 7
    ten = lit< tt

players_again : (most n row : ℕ) (ts : List Telling) → length ts ≤ most → n + length ts ≤ 1000000 → All IsTelling ts → read_players most n row (told_players_text n ts) ≡ Ok ts
unfolding read_players
players_again most n row [] few small told = refl
players_again zero n row (t ∷ ts) few small told = absurd (omega (arith, few))
players_again (suc more) n row (t ∷ ts) few small told =
    let line = fields_of (told_player_line n) tt in
    let later = telling_text t ++ told_players_text (n + 1) ts in
    ap (read_players (suc more) n row) (lines_behind (line ∷ []) later)
    ∙ then_is _ _ _ _ (line_again row (told_player_line n) tt later (can_player n) (lit≤ tt) (fits_place n (length ts) small, tt))
    (then_is _ _ _ _ (telling_again (row + 1) t (told_players_text (n + 1) ts) (All-head IsTelling t ts told))
    (then_is _ _ _ _ (players_again more (n + 1) (row + 1 + line_count t) ts (omega (arith, few)) (omega (arith, small)) (All-tail IsTelling t ts told)) refl))

-- ---- the whole

some_players : (bytes : Text) (ts : List Telling) → begins_players bytes ≡ true → bytes ≡ told_players_text 1 ts → 1 ≤ length ts
some_players bytes [] b e = absurd (none (sym b ∙ ap begins_players e))
  where
    none : true ≡ false → ⊥
    none h = cc
some_players bytes (t ∷ ts) b e = omega arith

-- what is read has a text, and the bytes are it
pub sheet_takes : (bytes : Text) (s : Tellings) → sheet_of bytes ≡ Ok s → TakesSheet bytes s
unfolding sheet_of sheet_text
sheet_takes bytes s h = go (begins_players bytes) refl h
  where
    go : (b : Bool) → begins_players bytes ≡ b → (if b then (read_players most_players 1 1 bytes >>= λ ss. Ok (record { joint = true; sessions = ss })) else read_alone bytes) ≡ Ok s → TakesSheet bytes s
    go true e k =
        let p = then_ok (read_players most_players 1 1 bytes) _ s k in
        let t = players_take most_players 1 1 bytes p.0 p.1 in
        let made : Tellings = record { joint = true; sessions = p.0 } in
        subst (TakesSheet bytes) (ok_is made s p.2) (record { has = record { count = (some_players bytes p.0 e t.text, t.few); sessions = t.sessions }; text = t.text })
    go false e k = alone_takes bytes s k

-- a text that begins with a digit
digit_first : (ds more : Text) → 1 ≤ length ds → 48 ≤ get_or ds 0 0 → get_or ds 0 0 ≤ 57 → begins_players (ds ++ more) ≡ false
digit_first [] more some low high = absurd (omega (arith, some))
digit_first (d ∷ ds) more some low high = grind (arith, nat_tests, low, high)

-- the bytes of a number, then, aren't those of players
number_first : (n : ℕ) (fields : List Text) (more : Text) → HasDigits time_digits n → begins_players (fields_line (decimal n ∷ fields) ++ more) ≡ false
number_first n fields more held =
    let wide : 10 ^ 15 ≤ 10 ^ 64 = lit≤ tt in
    let s = decimal-spelling n (omega (arith, held, wide)) in
    let d = digit_at (decimal n) 0 s.digits s.some in
    ap begins_players (append_assoc (decimal n) (later_fields fields) more) ∙ digit_first (decimal n) (later_fields fields ++ more) (omega (arith, s.some)) d.0 d.1

event_first : (e : Event) (more : Text) → IsToldBy e → begins_players (fields_line (event_fields e) ++ more) ≡ false
event_first (event.Request at segment rung) more told = number_first at (codes "request" ∷ decimal segment ∷ decimal rung ∷ []) more told.0
event_first (event.Arrive at segment rung first rate) more told = number_first at (codes "arrive" ∷ decimal segment ∷ decimal rung ∷ codes "first" ∷ decimal first ∷ codes "rate" ∷ decimal rate ∷ []) more told.0
event_first (event.Abandon at segment rung to got) more told = number_first at (codes "abandon" ∷ decimal segment ∷ decimal rung ∷ codes "to" ∷ decimal to ∷ codes "got" ∷ decimal got ∷ []) more told.0
event_first (event.Seek at to wasted) more told = number_first at (codes "seek" ∷ decimal to ∷ codes "wasted" ∷ decimal wasted ∷ []) more told.0
event_first (event.Play at segment rung) more told = number_first at (codes "play" ∷ decimal segment ∷ decimal rung ∷ []) more told.0
event_first (event.Stall at) more told = number_first at (codes "stall" ∷ []) more told.0
event_first (event.End at) more told = number_first at (codes "end" ∷ []) more told.0

-- the text of a session alone isn't that of players
telling_first : (es : List Event) (c : Counters) (more : Text) → All IsToldBy es → begins_players ((lines_text (map event_fields es) ++ lines_text (told_counters c)) ++ more) ≡ false
telling_first [] c more told = refl
telling_first (e ∷ es) c more told =
    let first = fields_line (event_fields e) in
    let others = lines_text (map event_fields es) in
    let counts = lines_text (told_counters c) in
    ap begins_players (append_assoc (first ++ others) counts more ∙ append_assoc first others (counts ++ more)) ∙ event_first e (others ++ (counts ++ more)) (All-head IsToldBy e es told)

text_again : (joint : Bool) (ts : List Telling) → IsCount joint (length ts) → All IsTelling ts → sheet_of (text_by joint ts) ≡ Ok (record { joint = joint; sessions = ts })
unfolding sheet_of
text_again true [] count told = absurd (omega (arith, count.0))
text_again true (t ∷ ts) count told = then_is _ _ _ _ (players_again most_players 1 1 (t ∷ ts) count.1 (omega (arith, count.1)) told) refl
text_again false [] count told = absurd (omega (arith, count))
text_again false (t ∷ []) count told =
    let own = All-head IsTelling t [] told in
    rw (telling_first t.events t.counters [] own.events) (alone_again t own)
text_again false (t ∷ u ∷ ts) count told = absurd (omega (arith, count))

-- what has a text is read from it
pub sheet_again : (s : Tellings) → HasToldText s → sheet_of (sheet_text s) ≡ Ok s
unfolding sheet_text
sheet_again s has = text_again s.joint s.sessions has.count has.sessions

-- sessions with equal texts are equal
pub same_sheet : (s t : Tellings) → HasToldText s → HasToldText t → sheet_text s ≡ sheet_text t → s ≡ t
same_sheet s t has other e = ok_is s t (sym (sheet_again s has) ∙ ap sheet_of e ∙ sheet_again t other)

-- what is read of what a call gave
pub sheet_found : (bytes : Text) (answer : Result Sheet InputFault) → Gives tellings answer (sheet_of bytes) → IfOk answer (λ s. HasToldText (tellings s) × (bytes ≡ sheet_text (tellings s)))
sheet_found bytes (Ok s) h = let t = sheet_takes bytes (tellings s) h in (t.has, t.text)
sheet_found bytes (Err fault) h = tt

-- a session alone that has a text
pub alone_has : (t : Telling) → IsTelling t → HasToldText (alone t)
alone_has t is = record { count = refl; sessions = All-cons IsTelling t [] is (All-nil IsTelling) }

-- what is written of a session is the text of what it tells
pub written_text : (s : Shown) (w : Weighing) → session_text s w ≡ sheet_text (alone (telling_of s w))
unfolding sheet_text
written_text s w =
    let counts = lines_text (told_counters (telling_of s w).counters) in
    ap (λ (t : Text). t ++ counts) (sym (flat_map-map fields_line event_fields s.events)) ∙ sym (append-nil (lines_text (map event_fields s.events) ++ counts))
