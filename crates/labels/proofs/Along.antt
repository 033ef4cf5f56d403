-- The player of a rung list stays beside the labels along it: at an arrival and at a request.
use Rattle.std.proofs.Common.{◌≡◌, ◌∙◌, ℕ, zero, suc, ◌+◌, ◌-◌, ◌*◌, ◌<◌, ◌≤◌, ⊎_elim, false, eqb, List, [], ◌∷◌, ◌++◌, max, slice_index, Option, Some, None, IfSome, is_some, unwrap_or, refl, sym, ap, subst, add-one, arith}
use Rattle.std.proofs.lemmas.Bool.{cases_lt, cond_both, eqb-true, true≢false}
use Rattle.std.proofs.lemmas.List.{append_assoc}
use Rattle.std.proofs.lemmas.List.Elements.{All-nil}
use Rattle.lab_model.specs.declared.context.Seek.{Seek}
use Rattle.lab_model.specs.declared.label.Label.{Label}
use Rattle.lab_model.specs.Film.{segments_of}
use Rattle.lab_model.specs.Rules.{listed}
use Rattle.player_core.specs.State.{Download, Player, playing}
use Rattle.player_core.specs.Parts.{arrival, arrives, asks, can_ask, mode_after_arrival, loads, request, rung_for}
use Rattle.player_core.specs.Sound.{DownloadRuns, IsCase, Sound}
use Rattle.player_core.proofs.Chain.{is_case}
use Rattle.player_core.proofs.Runs.{runs_done}
use Rattle.player_core.proofs.Soundness.{Asks, can_ask_true}
use Rattle.player_core.proofs.Waits.{asks_true}
use Rattle.labels.specs.Labels.{AreRungs, came_at, label_at, request_at, there_at}
use Rattle.player_core.specs.Scene.{IsTask, Task}
use Rattle.labels.specs.Along.{Along, case_along, label_before, mode_before, rungs_played}
use Rattle.labels.proofs.AlongLists.{played_next, segment_on}
use Rattle.labels.proofs.AlongSums.{arrive_waited, ask_false, ask_true}

-- ---- the labels of one segment after another

-- the case of a rung list keeps the limits
pub along_case : (g : Task) → IsTask g → (rungs : List ℕ) → AreRungs g (segments_of g.film) rungs → IsCase (case_along g rungs)
along_case g is rungs fits =
    is_case g.film g.periods (record g.setup { abandon = false }) [] g.ahead (listed rungs) is.film is.trace
    (record { buffer = is.setup.buffer; utilities = record { rungs = is.setup.utilities.rungs; rows = is.setup.utilities.rows } })
    (record { count = omega arith; instants = All-nil (λ (s : Seek). s.at_ms ≤ 1000000000); rising = λ k low. absurd (omega (arith, low)); targets = All-nil (λ (s : Seek). s.to < segments_of g.film) })
    is.ahead fits

-- the label of a segment is the one before the next
pub before_next : (g : Task) (rungs : List ℕ) (k : ℕ) → label_at g rungs k ≡ label_before g rungs (k + 1)
unfolding label_before
before_next g rungs k = sym (ap (label_before g rungs) (add-one k))

mode_next : (k : ℕ) → mode_after_arrival (mode_before k) ≡ mode_before (k + 1)
unfolding mode_before
mode_next k = begins k ∙ sym (ap mode_before (add-one k))
  where
    begins : (n : ℕ) → mode_after_arrival (mode_before n) ≡ playing
    begins zero = refl
    begins (suc i) = refl

module _ (g : Task) (is : IsTask g) (rungs : List ℕ) where
  -- the first segment is asked for when it is there
  first_request : there_at g 0 ≡ request_at g 0 (label_before g rungs 0)
  unfolding label_before
  first_request = let buffer = is.setup.buffer.0 in omega (arith, buffer)

  -- a label's instant: the download runs from the instant of the request
  label_t : (k : ℕ) → (label_at g rungs k).t ≡ came_at g (request_at g k (label_before g rungs k)) k (slice_index rungs k)
  unfolding label_at label_before
  label_t zero = ap (λ s. came_at g s 0 (slice_index rungs 0)) first_request
  label_t (suc i) = refl

  -- a label's delay: that before, or as much as its segment came too late
  label_p : (k : ℕ) → (label_at g rungs k).p ≡ max (label_before g rungs k).p ((label_at g rungs k).t - k * g.film.seg_ms)
  unfolding label_at label_before
  label_p zero = omega arith
  label_p (suc i) = refl

-- ---- an arrival

module _ (g : Task) (is : IsTask g) (rungs : List ℕ) (from : ℕ) (l : Label) (p : Player) (h : Sound (case_along g rungs) from p) (a : Along g rungs 0 l p) where
  module _ (d : Download) (some : p.download ≡ Some d) (fits : AreRungs g (segments_of g.film) rungs) (none : d.job.left ≡ 0) where
    -- it comes at the next label's instant
    loads_t : p.t ≡ (label_at g rungs p.k).t
    loads_t =
        let c = case_along g rungs in
        let runs : DownloadRuns c p.t d = subst (λ o. IfSome o (DownloadRuns c p.t)) some h.running in
        let next : d.segment ≡ p.k = subst (λ o. IfSome o (λ e. e.segment ≡ p.k)) some h.of_next in
        let asked : (d.asked ≡ request_at g p.k l) × (d.rung ≡ slice_index rungs p.k) = subst (λ o. IfSome o (λ e. (e.asked ≡ request_at g p.k l) × (e.rung ≡ slice_index rungs p.k))) some a.asked in
        runs_done c (along_case g is rungs fits) p.t d runs none ∙ ap (λ s. came_at g s d.segment d.rung) asked.0 ∙ ap (λ i. came_at g (request_at g p.k l) i d.rung) next
        ∙ ap (λ r. came_at g (request_at g p.k l) p.k r) asked.1 ∙ ap (λ m. came_at g (request_at g p.k m) p.k (slice_index rungs p.k)) a.label ∙ sym (label_t g is rungs p.k)

    -- what was waited is the next label's delay
    loads_p : p.startup_ms + p.stall_ms ≡ (label_at g rungs p.k).p
    loads_p =
        let spent = a.spent in
        let w = p.startup_ms + p.stall_ms in
        arrive_waited p.x w p.t p.y p.k g.film.seg_ms l.p (omega (arith, spent)) h.loaded_end h.position a.least a.tight
        ∙ ap (λ (m : Label). max m.p (p.t - p.k * g.film.seg_ms)) a.label ∙ ap (λ t. max (label_before g rungs p.k).p (t - p.k * g.film.seg_ms)) loads_t ∙ sym (label_p g is rungs p.k)

    -- what was waited before the first segment is its delay
    loads_startup : p.startup_ms ≡ (label_at g rungs 0).p
    loads_startup =
        ⊎_elim (λ (some : 0 < p.k). a.startup some)
        (λ (none : p.k ≤ 0).
        let first : p.k ≡ 0 = omega (arith, none) in
        let calm = a.calm first in
        let same = loads_p ∙ ap (λ k. (label_at g rungs k).p) first in
        omega (arith, calm, same)) (cases_lt 0 p.k)

    loads_listed : p.played ++ (p.loaded ++ segment_on d.segment d.rung ∷ []) ≡ rungs_played rungs (p.k + 1)
    loads_listed =
        let c = case_along g rungs in
        let runs : DownloadRuns c p.t d = subst (λ o. IfSome o (DownloadRuns c p.t)) some h.running in
        let next : d.segment ≡ p.k = subst (λ o. IfSome o (λ e. e.segment ≡ p.k)) some h.of_next in
        let asked : (d.asked ≡ request_at g p.k l) × (d.rung ≡ slice_index rungs p.k) = subst (λ o. IfSome o (λ e. (e.asked ≡ request_at g p.k l) × (e.rung ≡ slice_index rungs p.k))) some a.asked in
        let low = runs.segment in
        let count = fits.0 in
        let more = played_next rungs p.k (omega (arith, low, next, count)) in
        sym (append_assoc p.played p.loaded (segment_on d.segment d.rung ∷ [])) ∙ ap (λ ps. ps ++ segment_on d.segment d.rung ∷ []) a.listed ∙ ap (λ i. rungs_played rungs p.k ++ segment_on i d.rung ∷ []) next
        ∙ ap (λ r. rungs_played rungs p.k ++ segment_on p.k r ∷ []) asked.1 ∙ sym more ∙ ap (λ n. rungs_played rungs n) (sym (add-one p.k))

    loads_along : Along g rungs 0 (label_at g rungs p.k) (loads (case_along g rungs) p d)
    loads_along =
        let t = loads_t in
        let waited = loads_p in
        record {
          label = before_next g rungs p.k;
          spent = a.spent;
          free = a.free;
          mode = ap mode_after_arrival a.mode ∙ mode_next p.k;
          calm = λ zero. absurd (omega (arith, zero));
          startup = λ more. loads_startup;
          came = omega (arith, t);
          least = omega (arith, waited);
          tight = λ inside. waited;
          whole = λ all. waited;
          waits = λ idle more. omega (arith, t);
          asked = tt;
          listed = loads_listed;
          begun = a.begun;
        }

-- beside some label
abbrev pub Beside : Task → List ℕ → ℕ → Player → Type 0
Beside g rungs late p = (l : Label) × Along g rungs late l p

module _ (g : Task) (is : IsTask g) (rungs : List ℕ) (fits : AreRungs g (segments_of g.film) rungs) (from : ℕ) (p : Player) (h : Sound (case_along g rungs) from p) (b : Beside g rungs 0 p) where
  arrives_along : (o : Option Download) → p.download ≡ o → Beside g rungs 0 (arrives (case_along g rungs) p o)
  arrives_along None e = b
  arrives_along (Some d) e =
      cond_both (eqb d.job.left 0) (loads (case_along g rungs) p d) p (Beside g rungs 0)
      (λ z. (label_at g rungs p.k, loads_along g is rungs from b.0 p h b.1 d e fits (eqb-true d.job.left 0 z))) (λ z. b)

  -- after the arrival the player is beside a label
  pub arrival_along : Beside g rungs 0 (arrival (case_along g rungs) p)
  arrival_along = arrives_along p.download refl

-- ---- a request

module _ (g : Task) (is : IsTask g) (rungs : List ℕ) (from : ℕ) (l : Label) (p : Player) (h : Sound (case_along g rungs) from p) (a : Along g rungs 0 l p) where
  -- it comes at the label's instant
  asks_at : Asks (case_along g rungs) p → p.t ≡ request_at g p.k l
  asks_at can =
      let spent = a.spent in
      let early = ask_true p.x (p.startup_ms + p.stall_ms) p.t p.y p.k g.film.seg_ms g.setup.buffer_ms l.p l.t (there_at g p.k) (omega (arith, spent)) h.loaded_end h.position a.least a.came can.there can.fits in
      let late = a.waits can.free can.next in
      omega (arith, early, late)

  asks_rung : rung_for (case_along g rungs) p ≡ slice_index rungs p.k
  asks_rung = ap (λ o. unwrap_or o (slice_index rungs p.k)) a.free

  asks_along : Asks (case_along g rungs) p → Along g rungs 1 l (asks (case_along g rungs) p (rung_for (case_along g rungs) p))
  asks_along can = record {
    label = a.label;
    spent = a.spent;
    free = refl;
    mode = a.mode;
    calm = a.calm;
    startup = a.startup;
    came = a.came;
    least = a.least;
    tight = a.tight;
    whole = a.whole;
    waits = λ none. absurd (true≢false (ap is_some none));
    asked = (asks_at can, asks_rung);
    listed = a.listed;
    begun = a.begun;
  }

  -- where none can be made its instant is still to come
  idle_waits : can_ask (case_along g rungs) p ≡ false → p.download ≡ None → p.k < segments_of g.film → p.t + 1 ≤ request_at g p.k l
  idle_waits closed none low =
      let spent = a.spent in
      let buffer = is.setup.buffer.0 in
      ⊎_elim (λ (ahead : p.t < request_at g p.k l). omega (arith, ahead))
      (λ (late : request_at g p.k l ≤ p.t).
      let room = ask_false p.x (p.startup_ms + p.stall_ms) p.t p.y p.k g.film.seg_ms g.setup.buffer_ms l.p l.t (there_at g p.k) (omega (arith, spent)) h.loaded_end h.position a.tight buffer late in
      absurd (true≢false (sym (asks_true (case_along g rungs) p none low room (omega (arith, late))) ∙ closed))) (cases_lt p.t (request_at g p.k l))

  idle_along : can_ask (case_along g rungs) p ≡ false → Along g rungs 1 l p
  idle_along closed = record {
    label = a.label;
    spent = a.spent;
    free = a.free;
    mode = a.mode;
    calm = a.calm;
    startup = a.startup;
    came = a.came;
    least = a.least;
    tight = a.tight;
    whole = a.whole;
    waits = idle_waits closed;
    asked = a.asked;
    listed = a.listed;
    begun = a.begun;
  }

  -- after the request the next one is later than now
  pub request_along : Along g rungs 1 l (request (case_along g rungs) p)
  request_along =
      cond_both (can_ask (case_along g rungs) p) (asks (case_along g rungs) p (rung_for (case_along g rungs) p)) p (Along g rungs 1 l)
      (λ e. asks_along (can_ask_true (case_along g rungs) p e)) idle_along
