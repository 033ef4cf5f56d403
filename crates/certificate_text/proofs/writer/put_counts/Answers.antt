use Rattle.std.proofs.Common.{◌∷◌, [], ◌++◌, codes}
use Rattle.std.specs.Fmt.{decimal}
use Rattle.lab_model.specs.Film.{rungs_of, segments_of}
use Rattle.lab_io.specs.Piece.{fields_line}
use Rattle.lab_io.proofs.Puts.{puts_failed, puts_more}
use Rattle.certificate_text.specs.Spelling.{lines_text, table_lines, version_fields}
use Rattle.certificate_text.proofs.writer.put_counts.Goals as goal

pub returns-in_err-put_version : goal.returns-in_err-put_version
returns-in_err-put_version g c =
    puts_failed _ _ (fields_line (version_fields c.args.table))
    (fields_line (codes "segments" ∷ decimal (segments_of c.args.film.now) ∷ []) ++ (fields_line (codes "rungs" ∷ decimal (rungs_of c.args.film.now) ∷ []) ++ lines_text (table_lines c.args.table)))
    _ c.from_residual.result _ c.in_err-put_version.was c.from_residual.ensures.1 (rw c.version_number.ensures at c.put_version.ensures)

pub returns-in_err-put_count : goal.returns-in_err-put_count
returns-in_err-put_count g c =
    puts_more _ _ _ (fields_line (version_fields c.args.table))
    (fields_line (codes "segments" ∷ decimal (segments_of c.args.film.now) ∷ []) ++ (fields_line (codes "rungs" ∷ decimal (rungs_of c.args.film.now) ∷ []) ++ lines_text (table_lines c.args.table)))
    _ _ _ c.in_ok-put_version.was (rw c.version_number.ensures at c.put_version.ensures)
    (puts_failed _ _ (fields_line (codes "segments" ∷ decimal (segments_of c.args.film.now) ∷ [])) (fields_line (codes "rungs" ∷ decimal (rungs_of c.args.film.now) ∷ []) ++ lines_text (table_lines c.args.table))
    _ c.from_residual-in_err-put_count.result _ c.in_err-put_count.was c.from_residual-in_err-put_count.ensures.1 (rw c.segments.ensures.value at c.put_count.ensures))

pub returns-in_err-put_count-2 : goal.returns-in_err-put_count-2
returns-in_err-put_count-2 g c =
    puts_more _ _ _ (fields_line (version_fields c.args.table))
    (fields_line (codes "segments" ∷ decimal (segments_of c.args.film.now) ∷ []) ++ (fields_line (codes "rungs" ∷ decimal (rungs_of c.args.film.now) ∷ []) ++ lines_text (table_lines c.args.table)))
    _ _ _ c.in_ok-put_version.was (rw c.version_number.ensures at c.put_version.ensures)
    (puts_more _ _ _ (fields_line (codes "segments" ∷ decimal (segments_of c.args.film.now) ∷ [])) (fields_line (codes "rungs" ∷ decimal (rungs_of c.args.film.now) ∷ []) ++ lines_text (table_lines c.args.table))
    _ _ _ c.in_ok-put_count.was (rw c.segments.ensures.value at c.put_count.ensures)
    (puts_failed _ _ (fields_line (codes "rungs" ∷ decimal (rungs_of c.args.film.now) ∷ [])) (lines_text (table_lines c.args.table))
    _ c.from_residual-in_err-put_count-2.result _ c.in_err-put_count-2.was c.from_residual-in_err-put_count-2.ensures.1 (rw (c.from.ensures, c.rungs.ensures.value) at c.put_count-2.ensures)))

pub returns : goal.returns
returns g c =
    puts_more _ _ _ (fields_line (version_fields c.args.table))
    (fields_line (codes "segments" ∷ decimal (segments_of c.args.film.now) ∷ []) ++ (fields_line (codes "rungs" ∷ decimal (rungs_of c.args.film.now) ∷ []) ++ lines_text (table_lines c.args.table)))
    _ _ _ c.in_ok-put_version.was (rw c.version_number.ensures at c.put_version.ensures)
    (puts_more _ _ _ (fields_line (codes "segments" ∷ decimal (segments_of c.args.film.now) ∷ [])) (fields_line (codes "rungs" ∷ decimal (rungs_of c.args.film.now) ∷ []) ++ lines_text (table_lines c.args.table))
    _ _ _ c.in_ok-put_count.was (rw c.segments.ensures.value at c.put_count.ensures)
    (puts_more _ _ _ (fields_line (codes "rungs" ∷ decimal (rungs_of c.args.film.now) ∷ [])) (lines_text (table_lines c.args.table))
    _ _ _ c.in_ok-put_count-2.was (rw (c.from.ensures, c.rungs.ensures.value) at c.put_count-2.ensures) c.put_table.ensures))
