-- What bytes stand for, from what a read of them said.
use Rattle.std.proofs.Common.{◌≡◌, List, ℕ, Bool, true, false, Some, None, refl}
use Rattle.std.specs.Str.{IsUtf8, is_utf8}
use Rattle.std.proofs.lemmas.Str.{IsUtf8-from_is_utf8, is_utf8-from_IsUtf8}
use Rattle.serde_json.specs.Data.{Data}
use Rattle.serde_json.specs.Read.{read}
use Rattle.json_fields.specs.Fields.{json_of}

-- bytes in UTF-8 that are read as a value stand for it
pub is_json : (bs : List ℕ) (d : Data) → IsUtf8 bs → read bs ≡ Some d → json_of bs ≡ Some d
is_json bs d u r = let e = is_utf8-from_IsUtf8 bs u in rw (e, r) refl

-- bytes that aren't in UTF-8, or are read as no value, stand for none
pub no_json : (bs : List ℕ) → (IsUtf8 bs → read bs ≡ None) → json_of bs ≡ None
no_json bs h = go (is_utf8 bs) refl
  where
    go : (b : Bool) → is_utf8 bs ≡ b → json_of bs ≡ None
    go true e = let r = h (IsUtf8-from_is_utf8 bs e) in rw (e, r) refl
    go false e = rw e refl
