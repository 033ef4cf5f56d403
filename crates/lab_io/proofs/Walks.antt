-- A list of pieces, and one of files, taken one by one.
use Rattle.std.proofs.Common.{take, ◌-◌, arith, ◌∷◌, map, refl, ◌≡◌, ℕ, ◌+◌, ◌<◌, ◌≤◌, [], List, ◌++◌, Some, None, true, false, add-one, drop-cons, drop, get_or, length, String, Vec, Global, string_bytes}
use Rattle.std.proofs.lemmas.List.{drop_all, take_all}
use Rattle.std.specs.Str.{bytes_eq}
use Rattle.lab_io.specs.Sink.{Text}
use Rattle.lab_io.specs.Memory.{file_of, told_files}
use Rattle.lab_io.specs.Piece.{fields_line, later_fields, piece_text, pieces_text}
use Rattle.lab_io.specs.declared.text.Piece.{Piece}

-- from a place on the text begins with that of the piece there
pub pieces_from : (pieces : List Piece) (i : ℕ) (d : Piece) → i < length pieces → pieces_text (drop i pieces) ≡ piece_text (get_or pieces i d) ++ pieces_text (drop (i + 1) pieces)
pieces_from pieces i d lt = rw (add-one, drop-cons pieces i d) refl

-- behind the last piece there is no text
pub pieces_end : (pieces : List Piece) (i : ℕ) → length pieces ≤ i → pieces_text (drop i pieces) ≡ []
pieces_end pieces i h = rw (drop_all i pieces h) refl

-- from a place on the line goes on with a space and the field there
pub fields_from : (fields : List Piece) (i : ℕ) (d : Piece) → i < length fields → later_fields (map piece_text (drop i fields)) ≡ (32 ∷ []) ++ (piece_text (get_or fields i d) ++ later_fields (map piece_text (drop (i + 1) fields)))
fields_from fields i d lt = rw (add-one, drop-cons fields i d) refl

-- behind the last field the line ends
pub fields_end : (fields : List Piece) (i : ℕ) → length fields ≤ i → later_fields (map piece_text (drop i fields)) ≡ 10 ∷ []
fields_end fields i h = rw (drop_all i fields h) refl

-- a line begins with its first field, and the others follow
pub fields_first : (fields : List Piece) (d : Piece) → 1 ≤ length fields
    → fields_line (map piece_text fields) ≡ piece_text (get_or fields 0 d) ++ later_fields (map piece_text (take (length fields - 1) (drop 1 fields)))
fields_first [] d h = absurd (omega arith)
fields_first (f ∷ fs) d h = rw (take_all (length (f ∷ fs) - 1) fs (omega arith)) refl

-- the file at i has the name
pub file_here : (files : List (String Global × Vec ℕ Global)) (i : ℕ) (file : String Global × Vec ℕ Global) (name : Text) → i < length files → file ≡ get_or files i file → bytes_eq (string_bytes file.0) name ≡ true
    → file_of (told_files (drop i files)) name ≡ Some file.1.items
file_here files i file name lt e h = rw (drop-cons files i file, ← e, h) refl

-- the file at i has another
pub file_later : (files : List (String Global × Vec ℕ Global)) (i : ℕ) (file : String Global × Vec ℕ Global) (name : Text) → i < length files → file ≡ get_or files i file → bytes_eq (string_bytes file.0) name ≡ false
    → file_of (told_files (drop i files)) name ≡ file_of (told_files (drop (i + 1) files)) name
file_later files i file name lt e h = rw (add-one, drop-cons files i file, ← e, h) refl

-- behind the last file no name has one
pub file_end : (files : List (String Global × Vec ℕ Global)) (i : ℕ) (name : Text) → length files ≤ i → file_of (told_files (drop i files)) name ≡ None
file_end files i name h = rw (drop_all i files h) refl
