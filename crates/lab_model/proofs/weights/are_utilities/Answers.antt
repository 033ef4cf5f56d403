use Rattle.lab_model.proofs.weights.are_utilities.Goals as goal

pub returns-then-has_shape : goal.returns-then-has_shape
returns-then-has_shape c =
    let s = c.has_shape.ensures.0 c.if-has_shape.true in (
      λ h. record { count_fits = s.0; rows_fit = s.1; whole = s.2; each = rw c.max.ensures at (c.are_rows.ensures.0 h) },
      λ u. c.are_rows.ensures.1 (rw c.max.ensures u.each),
    )
