-- What pieces of text and numbers say.
use Rattle.std.specs.Prelude.{List, [], ◌∷◌, ◌++◌}
use Rattle.std.specs.List.{flat_map}
use Rattle.std.specs.Fmt.{signed_decimal}
use Rattle.lab_io.specs.Sink.{Text}
use Rattle.lab_io.specs.declared.text.Piece.{Piece}
use Rattle.lab_io.specs.declared.text.Piece.TheVariants as piece

-- a word as it is, or the decimal digits of a number, with `-` before a negative one
abbrev pub piece_text : Piece → Text
piece_text (piece.Word word) = word.now
piece_text (piece.Number n) = signed_decimal n

-- the pieces one after the other
abbrev pub pieces_text : List Piece → Text
pieces_text = flat_map piece_text

-- the fields that follow the first, each behind one space, and a newline
abbrev pub later_fields : List Text → Text
later_fields [] = 10 ∷ []
later_fields (field ∷ fields) = 32 ∷ (field ++ later_fields fields)

-- a line of fields, which are parted by one space
abbrev pub fields_line : List Text → Text
fields_line [] = 10 ∷ []
fields_line (field ∷ fields) = field ++ later_fields fields
