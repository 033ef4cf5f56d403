-- What the loops of the reader have read, one step at a time.
use Rattle.std.proofs.Common.{◌≡◌, ◌+◌, ◌-◌, ◌<◌, ◌≤◌, ℕ, suc, List, [], ◌∷◌, ◌++◌, Result, Ok, Err, length, refl, sym, ap, append_assoc, append-nil, arith}
use Rattle.lab_model.specs.Steps.{◌>>=◌}
use Rattle.lab_model.specs.declared.fault.Refusal.{Refusal}
use Rattle.lab_io.specs.Sink.{Text}
use Rattle.player_core.specs.declared.session.Event.{Event}
use Rattle.certificate_text.specs.Line.{read_line}
use Rattle.certificate_text.specs.Reading.{read_nothing}
use Rattle.session_reader.specs.Form.{Telling, line_count}
use Rattle.session_reader.specs.Grammar.{told_player_line}
use Rattle.session_reader.specs.Reading.{event_before, events_behind, read_event, read_events, read_players, read_telling}

-- ---- events

events_regrouped : (before : List Event) (e : Event) (es : List Event × Text) → events_behind before (event_before e es) ≡ events_behind (before ++ e ∷ []) es
events_regrouped before e es = ap (λ (all : List Event). (all, es.1)) (sym (append_assoc before (e ∷ []) es.0))

-- one more event
pub events_more : (before : List Event) (e : Event) (most i : ℕ) (rest later : Text) → i < most → read_event 1 rest ≡ Ok (e, later)
    → events_behind (before ++ e ∷ []) (read_events (most - (i + 1)) later) ≡ events_behind before (read_events (most - i) rest)
unfolding read_events
events_more before e most i rest later lt h =
    let k : most - i ≡ suc (most - (i + 1)) = omega arith in
    rw (k, h) (sym (events_regrouped before e (read_events (most - (i + 1)) later)))

-- a line that is none
pub events_stopped : (before : List Event) (most i : ℕ) (rest : Text) (y : Refusal) → i < most → read_event 1 rest ≡ Err y → events_behind before (read_events (most - i) rest) ≡ (before, rest)
unfolding read_events
events_stopped before most i rest y lt h =
    let k : most - i ≡ suc (most - (i + 1)) = omega arith in
    rw (k, h) (ap (λ (all : List Event). (all, rest)) (append-nil before))

-- all of them
pub events_ended : (before : List Event) (most i : ℕ) (rest : Text) → most ≤ i → events_behind before (read_events (most - i) rest) ≡ (before, rest)
unfolding read_events
events_ended before most i rest le =
    let k : most - i ≡ 0 = omega arith in
    rw k (ap (λ (all : List Event). (all, rest)) (append-nil before))

-- ---- players

-- sessions that were read before, and then those that are read
abbrev pub players_behind : List Telling → Result (List Telling) Refusal → Result (List Telling) Refusal
players_behind before read = read >>= λ ts. Ok (before ++ ts)

players_regrouped : (before : List Telling) (t : Telling) (read : Result (List Telling) Refusal) → players_behind before (read >>= λ ts. Ok (t ∷ ts)) ≡ players_behind (before ++ t ∷ []) read
players_regrouped before t (Ok ts) = ap (λ (all : List Telling). Ok all) (sym (append_assoc before (t ∷ []) ts))
players_regrouped before t (Err e) = refl

-- one more player
pub players_more : (before : List Telling) (t : Telling) (most i row : ℕ) (rest behind later : Text) → i < most → 0 < length rest → read_line row (told_player_line (i + 1)) rest ≡ Ok (tt, behind) → read_telling (row + 1) behind ≡ Ok (t, later)
    → players_behind (before ++ t ∷ []) (read_players (most - (i + 1)) (i + 1 + 1) (row + 1 + line_count t) later) ≡ players_behind before (read_players (most - i) (i + 1) row rest)
unfolding read_players
players_more before t most i row [] behind later lt some h k = absurd (omega (arith, some))
players_more before t most i row (b ∷ bytes) behind later lt some h k =
    let m : most - i ≡ suc (most - (i + 1)) = omega arith in
    rw (m, h, k) (sym (players_regrouped before t (read_players (most - (i + 1)) (i + 1 + 1) (row + 1 + line_count t) later)))

-- a line that is none of a player's
pub players_unnamed : (before : List Telling) (most i row : ℕ) (rest : Text) (y : Refusal) → i < most → 0 < length rest → read_line row (told_player_line (i + 1)) rest ≡ Err y
    → players_behind before (read_players (most - i) (i + 1) row rest) ≡ Err y
unfolding read_players
players_unnamed before most i row [] y lt some h = absurd (omega (arith, some))
players_unnamed before most i row (b ∷ bytes) y lt some h =
    let m : most - i ≡ suc (most - (i + 1)) = omega arith in
    rw (m, h) refl

-- a session that is refused
pub players_stopped : (before : List Telling) (most i row : ℕ) (rest behind : Text) (y : Refusal) → i < most → 0 < length rest → read_line row (told_player_line (i + 1)) rest ≡ Ok (tt, behind) → read_telling (row + 1) behind ≡ Err y
    → players_behind before (read_players (most - i) (i + 1) row rest) ≡ Err y
unfolding read_players
players_stopped before most i row [] behind y lt some h k = absurd (omega (arith, some))
players_stopped before most i row (b ∷ bytes) behind y lt some h k =
    let m : most - i ≡ suc (most - (i + 1)) = omega arith in
    rw (m, h, k) refl

-- nothing is left
pub players_ended : (before : List Telling) (most n row : ℕ) (rest : Text) → length rest ≡ 0 → players_behind before (read_players most n row rest) ≡ Ok before
unfolding read_players
players_ended before most n row [] none = ap (λ (all : List Telling). Ok all) (append-nil before)
players_ended before most n row (b ∷ bytes) none = absurd (omega (arith, none))

-- all of them, and nothing may be left
pub players_full : (before : List Telling) (most i n row : ℕ) (rest : Text) → most ≤ i → players_behind before (read_players (most - i) n row rest) ≡ (read_nothing row rest >>= λ done. Ok before)
unfolding read_players
players_full before most i n row [] le = ap (λ (all : List Telling). Ok all) (append-nil before)
players_full before most i n row (b ∷ bytes) le =
    let m : most - i ≡ 0 = omega arith in
    rw m refl
