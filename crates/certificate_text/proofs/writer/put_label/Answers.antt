use Rattle.std.proofs.Common.{◌∷◌, ◌++◌, [], map, rules}
use Rattle.std.specs.Fmt.{decimal, signed_decimal}
use Rattle.lab_io.specs.Batch.{Gathers}
use Rattle.lab_io.specs.Piece.{later_fields}
use Rattle.lab_io.proofs.Gathered.{gathers_failed, gathers_more}
use Rattle.certificate_text.proofs.writer.put_label.Goals as goal

pub returns-in_err-put_count : goal.returns-in_err-put_count
returns-in_err-put_count g c =
    let later = later_fields (map decimal c.args.names.now) in
    (gathers_failed _ _ _ _ _ (decimal c.args.label.t) (32 ∷ (decimal c.args.label.p ++ (32 ∷ (signed_decimal c.args.label.v ++ later)))) _ c.from_residual.result _ c.in_err-put_count.was c.from_residual.ensures.1 c.put_count.ensures)

pub returns-in_err-put_text : goal.returns-in_err-put_text
returns-in_err-put_text g c =
    let later = later_fields (map decimal c.args.names.now) in
    (gathers_more _ _ _ _ _ _ (decimal c.args.label.t) (32 ∷ (decimal c.args.label.p ++ (32 ∷ (signed_decimal c.args.label.v ++ later)))) _ _ _ c.in_ok-put_count.was c.put_count.ensures
    (gathers_failed _ _ _ _ _ (32 ∷ []) (decimal c.args.label.p ++ (32 ∷ (signed_decimal c.args.label.v ++ later))) _ c.from_residual-in_err-put_text.result _ c.in_err-put_text.was c.from_residual-in_err-put_text.ensures.1 c.put_text.ensures))

pub returns-in_err-put_count-2 : goal.returns-in_err-put_count-2
returns-in_err-put_count-2 g c =
    let later = later_fields (map decimal c.args.names.now) in
    (gathers_more _ _ _ _ _ _ (decimal c.args.label.t) (32 ∷ (decimal c.args.label.p ++ (32 ∷ (signed_decimal c.args.label.v ++ later)))) _ _ _ c.in_ok-put_count.was c.put_count.ensures
    (gathers_more _ _ _ _ _ _ (32 ∷ []) (decimal c.args.label.p ++ (32 ∷ (signed_decimal c.args.label.v ++ later))) _ _ _ c.in_ok-put_text.was c.put_text.ensures
    (gathers_failed _ _ _ _ _ (decimal c.args.label.p) (32 ∷ (signed_decimal c.args.label.v ++ later)) _ c.from_residual-in_err-put_count-2.result _ c.in_err-put_count-2.was c.from_residual-in_err-put_count-2.ensures.1 c.put_count-2.ensures)))

pub returns-in_err-put_text-2 : goal.returns-in_err-put_text-2
returns-in_err-put_text-2 g c =
    let later = later_fields (map decimal c.args.names.now) in
    (gathers_more _ _ _ _ _ _ (decimal c.args.label.t) (32 ∷ (decimal c.args.label.p ++ (32 ∷ (signed_decimal c.args.label.v ++ later)))) _ _ _ c.in_ok-put_count.was c.put_count.ensures
    (gathers_more _ _ _ _ _ _ (32 ∷ []) (decimal c.args.label.p ++ (32 ∷ (signed_decimal c.args.label.v ++ later))) _ _ _ c.in_ok-put_text.was c.put_text.ensures
    (gathers_more _ _ _ _ _ _ (decimal c.args.label.p) (32 ∷ (signed_decimal c.args.label.v ++ later)) _ _ _ c.in_ok-put_count-2.was c.put_count-2.ensures
    (gathers_failed _ _ _ _ _ (32 ∷ []) (signed_decimal c.args.label.v ++ later) _ c.from_residual-in_err-put_text-2.result _ c.in_err-put_text-2.was c.from_residual-in_err-put_text-2.ensures.1 c.put_text-2.ensures))))

pub returns-in_err-put_number : goal.returns-in_err-put_number
returns-in_err-put_number g c =
    let later = later_fields (map decimal c.args.names.now) in
    let value : Gathers (g.O.Sink.seen c.put_text-2.new.out) c.put_text-2.new.self (signed_decimal c.args.label.v) (g.O.Sink.seen c.put_number.new.out) c.put_number.new.self c.put_number.result = search rules in
    (gathers_more _ _ _ _ _ _ (decimal c.args.label.t) (32 ∷ (decimal c.args.label.p ++ (32 ∷ (signed_decimal c.args.label.v ++ later)))) _ _ _ c.in_ok-put_count.was c.put_count.ensures
    (gathers_more _ _ _ _ _ _ (32 ∷ []) (decimal c.args.label.p ++ (32 ∷ (signed_decimal c.args.label.v ++ later))) _ _ _ c.in_ok-put_text.was c.put_text.ensures
    (gathers_more _ _ _ _ _ _ (decimal c.args.label.p) (32 ∷ (signed_decimal c.args.label.v ++ later)) _ _ _ c.in_ok-put_count-2.was c.put_count-2.ensures
    (gathers_more _ _ _ _ _ _ (32 ∷ []) (signed_decimal c.args.label.v ++ later) _ _ _ c.in_ok-put_text-2.was c.put_text-2.ensures
    (gathers_failed _ _ _ _ _ (signed_decimal c.args.label.v) (later) _ c.from_residual-in_err-put_number.result _ c.in_err-put_number.was c.from_residual-in_err-put_number.ensures.1 value)))))

pub returns : goal.returns
returns g c =
    let later = later_fields (map decimal c.args.names.now) in
    let value : Gathers (g.O.Sink.seen c.put_text-2.new.out) c.put_text-2.new.self (signed_decimal c.args.label.v) (g.O.Sink.seen c.put_number.new.out) c.put_number.new.self c.put_number.result = search rules in
    (gathers_more _ _ _ _ _ _ (decimal c.args.label.t) (32 ∷ (decimal c.args.label.p ++ (32 ∷ (signed_decimal c.args.label.v ++ later)))) _ _ _ c.in_ok-put_count.was c.put_count.ensures
    (gathers_more _ _ _ _ _ _ (32 ∷ []) (decimal c.args.label.p ++ (32 ∷ (signed_decimal c.args.label.v ++ later))) _ _ _ c.in_ok-put_text.was c.put_text.ensures
    (gathers_more _ _ _ _ _ _ (decimal c.args.label.p) (32 ∷ (signed_decimal c.args.label.v ++ later)) _ _ _ c.in_ok-put_count-2.was c.put_count-2.ensures
    (gathers_more _ _ _ _ _ _ (32 ∷ []) (signed_decimal c.args.label.v ++ later) _ _ _ c.in_ok-put_text-2.was c.put_text-2.ensures
    (gathers_more _ _ _ _ _ _ (signed_decimal c.args.label.v) (later) _ _ _ c.in_ok-put_number.was value
    c.put_names.ensures)))))
