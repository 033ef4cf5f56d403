-- What `simulate --players` answers, by what was played.
use Rattle.std.proofs.Common.{◌≡◌, ◌∙◌, ◌⊎◌, ℕ, zero, suc, ◌+◌, ◌-◌, ◌<◌, ◌≤◌, ◌++◌, List, [], ◌∷◌, length, get_or, map, drop, Some, None, Result, Ok, Err, Bool, false, append-nil, append_assoc, add-one, drop-cons, inl, inr, ap, sym, refl, subst, arith}
use Rattle.std.specs.List.{All, slice_get}
use Rattle.std.specs.Result.{IsErrAnd}
use Rattle.std.proofs.lemmas.List.{drop_all, length-map, map-append}
use Rattle.std.proofs.lemmas.List.Elements.{All-append, All-cons, All-map, All-nil}
use Rattle.lab_io.specs.declared.PutErr.{PutErr}
use Rattle.lab_io.specs.Shelf.{Shelved}
use Rattle.lab_io.specs.Sink.{Text, Seen, Puts}
use Rattle.lab_io.proofs.Puts.{puts_as, puts_failed, puts_more, puts_none}
use Rattle.lab_model.specs.declared.setup.Setup.{Setup}
use Rattle.lab_model.specs.declared.trace.Period.{Period}
use Rattle.lab_model.specs.Film.{Film, IsWithin, rungs_of, segments_of}
use Rattle.lab_model.specs.Fit.{SetupFits}
use Rattle.lab_model.specs.Rules.{KindFits, RuleKind}
use Rattle.lab_model.specs.Weighing.{HasUtility, Weighing}
use Rattle.lab_words.specs.declared.NamedRule.{NamedRule}
use Rattle.lab_words.specs.declared.Verb.TheVariants as verb
use Rattle.lab_words.specs.Command.{CommandWords, named}
use Rattle.lab_words.specs.Rules.{spoken}
use Rattle.lab_inputs.specs.declared.stop.Stop.{Stop}
use Rattle.lab_inputs.specs.Inputs.{AreFor, InputValues}
use Rattle.lab_inputs.specs.Roles.{film_files}
use Rattle.lab_inputs.specs.Settings.{settled}
use Rattle.player_core.specs.declared.session.Session.{Session}
use Rattle.player_core.specs.Session.{Shown, shown}
use Rattle.session_report.specs.Session.{CanReport, session_text}
use Rattle.shared_link.specs.Joint.{JointCase, joint_of, joint_session, players_of}
use Rattle.shared_link.specs.Table.{AreSessions, IsWholeSession}
use Rattle.abrlab_top.specs.declared.ending.Ending.{Ending}
use Rattle.abrlab_top.specs.declared.ending.Ending.TheVariants as ending
use Rattle.abrlab_top.specs.declared.rule.AnyRule.{AnyRule}
use Rattle.abrlab_top.specs.Answer.{printed}
use Rattle.abrlab_top.specs.Choice.{no_choice}
use Rattle.abrlab_top.specs.Outcome.{about}
use Rattle.abrlab_top.specs.Players.{AreOf, joint_on, joint_text, play_jointly, play_jointly_on, player_line, players_text, simulate_by}
use Rattle.abrlab_top.specs.Rules.{HasSeen, kind_of}
use Rattle.abrlab_top.specs.Runs.{Ends, EndsBy}
use Rattle.abrlab_top.specs.Stages.{at_the_end}
use Rattle.abrlab_top.proofs.Networks.{all_mapped}
use Rattle.abrlab_top.proofs.Whole.{ends_by}

-- ---- the answer

-- no network is named
pub no_network : (i : InputValues) → slice_get i.networks 0 ≡ None → play_jointly i ≡ Ok (printed [])
unfolding play_jointly
no_network i e = ap (play_jointly_on i) e

-- a setting does not fit
pub jointly_stopped : (i : InputValues) (n : Text × List Period) (why : Stop) → slice_get i.networks 0 ≡ Some n → settled i ≡ Err why → play_jointly i ≡ Err (ending.Stopped why)
unfolding play_jointly
jointly_stopped i n why e h = rw (e, h) refl

-- the texts of the players are printed
pub played_jointly : (i : InputValues) (n : Text × List Period) → slice_get i.networks 0 ≡ Some n → settled i ≡ Ok i → play_jointly i ≡ Ok (printed (joint_text (joint_on i n.1)))
unfolding play_jointly
played_jointly i n e h = rw (e, h) refl

-- what is read for the words of several players is for as many, and nobody gives a download up
pub for_players : (c : CommandWords) (i : InputValues) → AreFor c i → IsWithin 1 8 (length c.rules) → c.abandon ≡ false → IsWithin 1 8 (length i.rules) × (i.setup.abandon ≡ false)
for_players c i h players keeps = (
  subst (IsWithin 1 8) (sym (ap (λ (j : InputValues). length j.rules) h.is)) players,
  ap (λ (j : InputValues). j.setup.abandon) h.is ∙ keeps,
)

-- how `simulate` ended, by whether it is about several players
pub simulate_ends : (several : Bool) (c : CommandWords) (shelf : Shelved) (out : Seen) (e : Ending) (shelf2 : Shelved) (out2 : Seen) → c.verb ≡ verb.Simulate → c.players ≡ several
    → Ends (film_files c) at_the_end (about (simulate_by several) c) shelf out e shelf2 out2 → EndsBy (Some c) shelf out e shelf2 out2
simulate_ends several c shelf out e shelf2 out2 v players x =
    ends_by no_choice verb.Simulate c shelf out e shelf2 out2 v (λ files t some i read. tt)
    (subst (λ b. Ends (film_files c) at_the_end (about (simulate_by b) c) shelf out e shelf2 out2) (sym players) x)

-- ---- the texts

module _ (shows : ℕ → Shown) (w : Weighing) where
  rest_of : (i k : ℕ) → (rest : Text) × (players_text shows w (i + k) ≡ players_text shows w i ++ rest)
  unfolding players_text
  rest_of i zero = ([], let same : i + 0 ≡ i = omega arith in ap (players_text shows w) same ∙ sym (append-nil (players_text shows w i)))
  rest_of i (suc k) =
      let x = rest_of i k in
      let said = player_line (i + k + 1) ++ session_text (shows (i + k)) w in
      let next : i + suc k ≡ suc (i + k) = omega arith in
      (x.0 ++ said, ap (players_text shows w) next ∙ ap (λ t. t ++ said) x.1 ∙ append_assoc (players_text shows w i) x.0 said)

  -- the text of a player, between those of the players before and behind it
  split_at : (i n : ℕ) → i < n → (rest : Text) × (players_text shows w n ≡ players_text shows w i ++ (player_line (i + 1) ++ (session_text (shows i) w ++ rest)))
  unfolding players_text
  split_at i n low =
      let x = rest_of (suc i) (n - suc i) in
      let whole : suc i + (n - suc i) ≡ n = omega (arith, low) in
      let line = player_line (i + 1) in
      let text = session_text (shows i) w in
      let all : players_text shows w n ≡ players_text shows w (suc i) ++ x.0 = subst (λ m. players_text shows w m ≡ players_text shows w (suc i) ++ x.0) whole x.1 in
      (x.0, all ∙ append_assoc (players_text shows w i) (line ++ text) x.0 ∙ ap (λ t. players_text shows w i ++ t) (append_assoc line text x.0))

  -- no text was to be written
  pub players_none : (a : Seen) → Puts a (players_text shows w 0) a (Ok tt)
  unfolding players_text
  players_none a = puts_none a (Ok tt) refl

  -- one more player's text was written
  pub players_more : (a b c d : Seen) (i : ℕ) (s : Shown) (r q : Result (Unit {0}) PutErr) (u v : Unit {0}) → r ≡ Ok u → q ≡ Ok v → s ≡ shows i
      → Puts a (players_text shows w i) b (Ok tt) → Puts b (player_line (i + 1)) c r → Puts c (session_text s w) d q → Puts a (players_text shows w (i + 1)) d (Ok tt)
  unfolding players_text
  players_more a b c d i s r q u v e h k x y z =
      let said : Puts b (player_line (i + 1) ++ session_text (shows i) w) d q =
      puts_more b c d (player_line (i + 1)) (session_text (shows i) w) r q u e y (puts_as c d _ _ q (ap (λ (x : Shown). session_text x w) k) z) in
      let both : Puts a (players_text shows w i ++ (player_line (i + 1) ++ session_text (shows i) w)) d q =
      puts_more a b d (players_text shows w i) (player_line (i + 1) ++ session_text (shows i) w) (Ok tt) q tt refl x said in
      let next : suc i ≡ i + 1 = omega arith in
      let whole : Puts a (players_text shows w (suc i)) d (Ok v) = subst (λ r. Puts a (players_text shows w (suc i)) d r) h both in
      subst (λ m. Puts a (players_text shows w m) d (Ok tt)) next whole

  -- a player's line did not go out
  pub line_cut : (a b c : Seen) (i n : ℕ) (r q : Result (Unit {0}) PutErr) (e : PutErr) → i < n → r ≡ Err e → IsErrAnd q (λ y. y ≡ e)
      → Puts a (players_text shows w i) b (Ok tt) → Puts b (player_line (i + 1)) c r → Puts a (players_text shows w n) c q
  line_cut a b c i n r q e low h k x y =
      let split = split_at i n low in
      puts_as a c _ _ q (sym split.1)
      (puts_more a b c (players_text shows w i) (player_line (i + 1) ++ (session_text (shows i) w ++ split.0)) (Ok tt) q tt refl x
      (puts_failed b c (player_line (i + 1)) (session_text (shows i) w ++ split.0) r q e h k y))

  -- a player's session did not go out
  pub session_cut : (a b c d : Seen) (i n : ℕ) (s : Shown) (r p q : Result (Unit {0}) PutErr) (u : Unit {0}) (e : PutErr) → i < n → r ≡ Ok u → p ≡ Err e → IsErrAnd q (λ y. y ≡ e) → s ≡ shows i
      → Puts a (players_text shows w i) b (Ok tt) → Puts b (player_line (i + 1)) c r → Puts c (session_text s w) d p → Puts a (players_text shows w n) d q
  session_cut a b c d i n s r p q u e low g h k same x y z =
      let split = split_at i n low in
      puts_as a d _ _ q (sym split.1)
      (puts_more a b d (players_text shows w i) (player_line (i + 1) ++ (session_text (shows i) w ++ split.0)) (Ok tt) q tt refl x
      (puts_more b c d (player_line (i + 1)) (session_text (shows i) w ++ split.0) r q u g y
      (puts_failed c d (session_text (shows i) w) split.0 p q e h k (puts_as c d _ _ p (ap (λ (x : Shown). session_text x w) same) z))))

-- ---- the rules

-- one more rule, before those that are to come
pub rules_more : (played : List AnyRule) (one : AnyRule) (rules : List NamedRule) (i : ℕ) (rule : NamedRule) → i < length rules → rule ≡ get_or rules i rule → kind_of one ≡ spoken rule.rule
    → map kind_of (played ++ (one ∷ [])) ++ map (λ (r : NamedRule). spoken r.rule) (drop (i + 1) rules) ≡ map kind_of played ++ map (λ (r : NamedRule). spoken r.rule) (drop i rules)
rules_more played one rules i rule low e k =
    rw (add-one, drop-cons rules i rule low, ← e, map-append kind_of played (one ∷ []), ← k) (append_assoc (map kind_of played) (kind_of one ∷ []) (map (λ (r : NamedRule). spoken r.rule) (drop (suc i) rules)))

-- all rules are there
pub rules_done : (played : List AnyRule) (rules : List NamedRule) (i : ℕ) → length rules ≤ i
    → map kind_of played ++ map (λ (r : NamedRule). spoken r.rule) (drop i rules) ≡ map (λ (r : NamedRule). spoken r.rule) rules → map kind_of played ≡ map (λ (r : NamedRule). spoken r.rule) rules
rules_done played rules i h e = let x = rw (drop_all i rules h) at e in sym (append-nil (map kind_of played)) ∙ x

-- each is told nothing yet
pub told_more : (played : List AnyRule) (one : AnyRule) → All (λ r. HasSeen r []) played → HasSeen one [] → All (λ r. HasSeen r []) (played ++ (one ∷ []))
told_more played one h k = All-append (λ r. HasSeen r []) played (one ∷ []) h (All-cons (λ r. HasSeen r []) one [] k (All-nil (λ r. HasSeen r [])))

spoken_rules : (seen : List NamedRule) → map (λ (r : NamedRule). spoken r.rule) seen ≡ map (λ (r : Text × RuleKind). r.1) (map named seen)
spoken_rules [] = refl
spoken_rules (r ∷ rs) = ap (λ ks. spoken r.rule ∷ ks) (spoken_rules rs)

-- the kinds of the rules that play are those of the words
pub kinds_are : (i : InputValues) (seen : List NamedRule) (played : List AnyRule) → map named seen ≡ i.rules → map kind_of played ≡ map (λ (r : NamedRule). spoken r.rule) seen → map kind_of played ≡ map (λ (r : Text × RuleKind). r.1) i.rules
kinds_are i seen played e h = h ∙ spoken_rules seen ∙ ap (map (λ (r : Text × RuleKind). r.1)) e

-- they are as many
pub as_many : (i : InputValues) (played : List AnyRule) → map kind_of played ≡ map (λ (r : Text × RuleKind). r.1) i.rules → IsWithin 1 8 (length i.rules) → IsWithin 1 8 (length played)
as_many i played e h = subst (IsWithin 1 8) (sym (length-map i.rules (λ (r : Text × RuleKind). r.1)) ∙ sym (ap length e) ∙ length-map played kind_of) h

-- each can be asked about the film
pub kinds_fit : (i : InputValues) (played : List AnyRule) (film : Film) → map kind_of played ≡ map (λ (r : Text × RuleKind). r.1) i.rules → film ≡ i.film → All (λ (r : Text × RuleKind). KindFits r.1 i.film) i.rules → All (λ r. KindFits (kind_of r) film) played
kinds_fit i played film e f h =
    rw f (all_mapped (λ k. KindFits k i.film) kind_of played (subst (All (λ k. KindFits k i.film)) (sym e) (All-map (λ k. KindFits k i.film) (λ (r : Text × RuleKind). r.1) i.rules h)))

-- ---- the sessions

-- a rung of the film has a utility at each of its segments
has_utility : (f : Film) (set : Setup) (rung segment : ℕ) → SetupFits set f → (rung < rungs_of f) × (segment < segments_of f) → HasUtility set.weights segment rung
has_utility f set rung segment fits h = (rw fits.utilities.rungs h.0, by_rows fits.utilities.rows)
  where
    by_rows : (set.weights.rows ≡ 0) ⊎ (set.weights.rows ≡ segments_of f) → 0 < set.weights.rows → segment < set.weights.rows
    by_rows (inl none) some = absurd (omega (arith, none, some))
    by_rows (inr all) some = rw all h.1

-- a session of the film can be reported
can_report : (f : Film) (set : Setup) (s : Session) → SetupFits set f → IsWholeSession f s → CanReport (shown s) set.weights
can_report f set s fits whole =
    let times = whole.times in
    let ends = whole.ends in
    let count = whole.count in
    record {
      played = record {
        utilities = λ i d low. has_utility f set (get_or s.played.items i d).rung (get_or s.played.items i d).segment fits (whole.rungs i d low);
        count = omega (arith, count);
      };
      stall = omega (arith, times, ends);
      startup = omega (arith, times, ends);
    }

-- each session can be reported
pub all_reported : (film : Film) (set weighed : Setup) (ss : List Session) → SetupFits set film → weighed ≡ set → All (IsWholeSession film) ss → All (λ s. CanReport (shown s) weighed.weights) ss
all_reported film set weighed ss fits e h = λ i d low. rw e (can_report film set (get_or ss i d) fits (h i d low))

-- the case that was played is that of the inputs
pub case_is : (i : InputValues) (periods trace : List Period) (film : Film) (set : Setup) (played : List AnyRule) → map kind_of played ≡ map (λ (r : Text × RuleKind). r.1) i.rules → film ≡ i.film → trace ≡ periods → set ≡ i.setup
    → joint_of film trace set (map kind_of played) ≡ joint_on i periods
case_is i periods trace film set played e f p s = rw (e, f, p, s) refl

-- the texts of its sessions are what is to be printed
pub texts_are : (i : InputValues) (periods : List Period) (j : JointCase) (ss : List Session) (weighed : Setup) → j ≡ joint_on i periods → weighed ≡ i.setup → AreSessions j ss
    → players_text (joint_session j) weighed.weights (length ss) ≡ joint_text (joint_on i periods)
texts_are i periods j ss weighed e w are =
    ap (players_text (joint_session j) weighed.weights) are.count ∙ ap (λ (s : Setup). players_text (joint_session j) s.weights (players_of j)) (w ∙ sym (ap (λ (k : JointCase). k.setup) e)) ∙ ap joint_text e

-- they show what its players show
pub are_of : (j : JointCase) (ss : List Session) → AreSessions j ss → AreOf (joint_session j) ss
are_of j ss are = λ i s low. let count = are.count in are.each i s (omega (arith, low, count))
