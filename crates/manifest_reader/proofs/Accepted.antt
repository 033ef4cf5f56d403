-- A manifest that was read is a film.
use Rattle.std.proofs.Common.{◌≡◌, ℕ, List, length, Ok, refl, subst}
use Rattle.serde_json.specs.Data.{Data}
use Rattle.lab_model.proofs.Steps.{then_ok}
use Rattle.lab_model.specs.Film.{Film, IsFilm, film}
use Rattle.manifest_reader.specs.Manifest.{bitrates_of, film_of, manifest_of, seg_ms_of, sizes_of, manifest_object}
use Rattle.manifest_reader.proofs.Limits.{parts-film}
use Rattle.lab_model.specs.Steps.{◌>>=◌}

film_of-limits : (d : Data) (f : Film) → film_of d ≡ Ok f → IsFilm f
film_of-limits d f h =
    let s = then_ok (seg_ms_of d) (λ seg_ms. bitrates_of d >>= λ bitrates. sizes_of (length bitrates) d >>= λ sizes. Ok (film seg_ms bitrates sizes)) f h in
    let b = then_ok (bitrates_of d) (λ bitrates. sizes_of (length bitrates) d >>= λ sizes. Ok (film s.0 bitrates sizes)) f s.2 in
    let z = then_ok (sizes_of (length b.0) d) (λ sizes. Ok (film s.0 b.0 sizes)) f b.2 in
    let same : film s.0 b.0 z.0 ≡ f = let k = z.2 in cc in
    subst IsFilm same (parts-film d s.0 b.0 z.0 (length b.0) refl s.1 b.1 z.1)

-- what a manifest is accepted as keeps the limits of a film
pub manifest-limits : (bytes : List ℕ) (f : Film) → manifest_of bytes ≡ Ok f → IsFilm f
unfolding manifest_of
manifest-limits bytes f h = let d = then_ok (manifest_object bytes) film_of f h in film_of-limits d.0 f d.2
