use Rattle.std.proofs.Common.{Bor, List, ℕ, ap, sym, ⊎_elim, ◌≡◌, ◌∙◌, ◌+◌, ◌<◌, ◌≤◌, ◌∷◌, ◌++◌, [], refl, rules, inl, inr, true, map, Some, length, arith}
use Rattle.std.specs.Result.{is_ok}
use Rattle.std.proofs.lemmas.Bool.{cases_lt}
use Rattle.std.proofs.lemmas.List.{length-append, length-map, map-append}
use Rattle.csv.specs.Reading.{default_config, strip_bom}
use Rattle.csv.specs.Records.{fields_of}
use Rattle.csv_records.specs.Table.{is_uneven}
use Rattle.csv.proofs.ReadFacts.{rows-end}
use Rattle.csv_records.specs.Walk.{tabled}
use Rattle.csv_records.proofs.Rows.{filled, fit_none, refused, stands_start, went, whole}
use Rattle.csv_records.proofs.records.records_of.Goals as goal

pub loop-row-init : goal.loop-row-init
loop-row-init c =
    let fr = c.from_reader-rdr.ensures in
    let e = c.has_headers.ensures in
    let start = c.into_iter-row-iterator.ensures.into_iter_gives ∙ refl in
    let source = c.take-row-items.ensures.source in
    let rdr = c.into_byte_records.ensures.rdr in
    let left = c.into_byte_records.ensures.left in
    rw (start, source, rdr, c.take-row-items.ensures.count, c.new-rows.ensures.items) (record {
      count = omega arith;
      trim = rw e at fr.trim ∙ c.new.ensures.trim;
      ready = inr (inr (rw e at fr.has_headers, fr.headers));
      left = left;
      config = rw e at fr.config ∙ c.new.ensures.config;
      flexible = rw e at fr.flexible ∙ c.new.ensures.flexible;
      expected = fr.expected;
      fit = fit_none;
      unread = strip_bom c.args.bytes.now;
      source = fr.source;
      stands = rw fr.state (stands_start (strip_bom c.args.bytes.now));
    })

pub loop-row-preserved : goal.loop-row-preserved
loop-row-preserved c =
    let inv = c.loop-row.invariant in
    let took = rw (c.in-Some.is, c.in-Ok.is) at c.next.ensures.steps in
    let steps = took.0 inv.left inv.trim in
    let s = steps.0 inv.ready in
    let ok = steps.2 in
    let good : is_ok c.push.result ≡ true = search rules in
    let items = rw good at c.push.ensures.items in
    let w = went (λ (s : Bor (List ℕ)). Some s.now) c.loop-row.row-iterator.iter.rdr c.next.new.self.iter.rdr (strip_bom c.args.bytes.now) inv.unread (map fields_of c.loop-row.rows.items) (fields_of c.in-Ok.fields)
    inv.config inv.flexible inv.expected inv.fit inv.source inv.stands ok.1 s.0 in
    let grown = map-append fields_of c.loop-row.rows.items (c.in-Ok.fields ∷ []) in
    let size : length (c.loop-row.rows.items ++ c.in-Ok.fields ∷ []) ≡ length c.loop-row.rows.items + 1 = length-append c.loop-row.rows.items (c.in-Ok.fields ∷ []) in
    rw (items, grown) (record {
      count = omega (arith, inv.count, took.1, size);
      trim = s.0.3 ∙ inv.trim;
      ready = inl s.1;
      left = s.2;
      config = s.0.2 ∙ inv.config;
      flexible = steps.3 ∙ inv.flexible;
      expected = w.expected;
      fit = w.fit;
      unread = w.unread;
      source = w.source;
      stands = w.stands;
    })

pub returns-in-Err : goal.returns-in-Err
returns-in-Err c =
    let inv = c.loop-row.invariant in
    let took = rw (c.in-Some.is, c.in-Err.is) at c.next.ensures.steps in
    let s = (took.0 inv.left inv.trim).0 inv.ready in
    let n : length c.loop-row.rows.items + 1 ≡ length (map fields_of c.loop-row.rows.items) + 1 = ap (λ k. k + 1) (sym (length-map c.loop-row.rows.items fields_of)) in
    let few : length (map fields_of c.loop-row.rows.items) < c.args.most = simp length-map (omega (arith, inv.count, took.1)) in
    let uneven : is_uneven c.in-Err.error.kind ≡ true = sym c.is_uneven.ensures ∙ c.if-not-is_uneven.false in
    ap (λ (k : ℕ). tabled (map fields_of c.loop-row.rows.items) (Some k)) n
    ∙ sym (refused (λ (s : Bor (List ℕ)). Some s.now) c.loop-row.row-iterator.iter.rdr c.next.new.self.iter.rdr c.args.most c.args.bytes.now inv.unread (map fields_of c.loop-row.rows.items) c.in-Err.error.kind
    few inv.config inv.expected inv.fit inv.source inv.stands s uneven)

pub returns : goal.returns
returns c =
    let inv = c.loop-row.invariant in
    let rows = map fields_of c.loop-row.rows.items in
    let rdr = c.loop-row.row-iterator.iter.rdr in
    let steps = rw c.in-None.is at c.next.ensures.steps in
    let few : length (map fields_of c.loop-row.rows.items) ≤ c.args.most = simp length-map (omega (arith, inv.count)) in
    let ended = λ (more : 0 < c.loop-row.row-iterator.n).
    whole c.args.most c.args.bytes.now rows rdr.state inv.unread few inv.stands inv.fit
    (rows-end (λ (s : Bor (List ℕ)). Some s.now) rdr c.next.new.self.iter.rdr [] default_config inv.unread inv.config inv.source ((steps more inv.left inv.trim).0 inv.ready)) in
    let full = λ (none : c.loop-row.row-iterator.n ≤ 0).
    let count : length (map fields_of c.loop-row.rows.items) ≡ c.args.most = simp length-map (omega (arith, inv.count, none)) in
    filled c.args.most c.args.bytes.now rows rdr.state inv.unread count inv.stands inv.fit in
    sym (⊎_elim ended full (cases_lt 0 c.loop-row.row-iterator.n))
