-- What the loop of the reader has read, one window at a time.
use Rattle.std.proofs.Common.{◌≡◌, ◌+◌, ◌-◌, ◌<◌, ◌≤◌, ℕ, suc, List, [], ◌∷◌, ◌++◌, Ok, Err, refl, sym, ap, append_assoc, append-nil, arith}
use Rattle.lab_model.specs.Steps.{◌>>=◌}
use Rattle.lab_model.specs.declared.fault.Refusal.{Refusal}
use Rattle.lab_io.specs.Sink.{Text}
use Rattle.certificate_text.specs.Fields.{Read}
use Rattle.price_bounds.specs.declared.window.Window.{Window}
use Rattle.price_text.specs.Reading.{behind, window_at, windows_at}

windows_regrouped : (before : List Window) (w : Window) (read : Read (List Window)) → behind before (read >>= λ ws. Ok (w ∷ ws.0, ws.1)) ≡ behind (before ++ w ∷ []) read
windows_regrouped before w (Ok x) = ap (λ (ws : List Window). Ok (ws, x.1)) (sym (append_assoc before (w ∷ []) x.0))
windows_regrouped before w (Err e) = refl

-- one more window
pub windows_more : (before : List Window) (w : Window) (row count i : ℕ) (rest later : Text) → i < count → window_at (row + i) rest ≡ Ok (w, later)
    → behind (before ++ w ∷ []) (windows_at (row + (i + 1)) (count - (i + 1)) later) ≡ behind before (windows_at (row + i) (count - i) rest)
unfolding windows_at
windows_more before w row count i rest later lt h =
    let k : count - i ≡ suc (count - (i + 1)) = omega arith in
    let j : row + (i + 1) ≡ row + i + 1 = omega arith in
    rw (k, j, h) (sym (windows_regrouped before w (windows_at (row + i + 1) (count - (i + 1)) later)))

-- one that is refused
pub windows_stopped : (before : List Window) (row count i : ℕ) (rest : Text) (y : Refusal) → i < count → window_at (row + i) rest ≡ Err y
    → behind before (windows_at (row + i) (count - i) rest) ≡ Err y
unfolding windows_at
windows_stopped before row count i rest y lt h =
    let k : count - i ≡ suc (count - (i + 1)) = omega arith in
    rw (k, h) refl

-- all of them
pub windows_ended : (before : List Window) (row count i : ℕ) (rest : Text) → count ≤ i → behind before (windows_at (row + i) (count - i) rest) ≡ Ok (before, rest)
unfolding windows_at
windows_ended before row count i rest le =
    let k : count - i ≡ 0 = omega arith in
    rw k (ap (λ (ws : List Window). Ok (ws, rest)) (append-nil before))
