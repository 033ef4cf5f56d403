use Rattle.std.proofs.Common.{Bor, List, ℕ, sym, ◌≡◌, ◌∙◌, ◌+◌, ◌<◌, ◌≤◌, ◌∷◌, ◌++◌, [], inl, true, Some, length, length-append, arith}
use Rattle.csv.specs.Reading.{default_config, strip_bom}
use Rattle.csv.specs.Records.{fields_of}
use Rattle.csv_records.specs.Table.{is_uneven}
use Rattle.csv.proofs.ReadFacts.{rows-end}
use Rattle.csv_records.proofs.Rows.{filled, refused, went, whole}
use Rattle.csv_records.proofs.walk.Walk.advance.Goals as goal

pub returns-then-self-eq0 : goal.returns-then-self-eq0
returns-then-self-eq0 c bytes most rows h =
    let count : length rows ≡ most = omega (arith, h.count, c.if-self-eq0.true) in
    filled most bytes rows c.args.self.now.reader.state h.unread count h.stands h.fit

pub returns-in-Ok-true : goal.returns-in-Ok-true
returns-in-Ok-true c bytes most rows h =
    let e = c.in-Ok-true.ensures in
    let fields = fields_of c.read_byte_record.new.row in
    let read = rw c.in-Ok-true.field-0-test at (e.reads h.trim h.ready) in
    let failed = e.goes ∙ h.failed in
    let w = went (λ (s : Bor (List ℕ)). Some s.now) c.args.self.now.reader c.read_byte_record.new.self (strip_bom bytes) h.unread rows fields
    h.config h.flexible h.expected h.fit h.source h.stands failed read in
    let size : length (rows ++ fields ∷ []) ≡ length rows + 1 = length-append rows (fields ∷ []) in
    record {
      count = omega (arith, h.count, size, c.if-self-eq0.false);
      trim = read.3 ∙ h.trim;
      ready = inl (e.ready h.trim);
      config = read.2 ∙ h.config;
      flexible = e.flexible ∙ h.flexible;
      failed = failed;
      expected = w.expected;
      fit = w.fit;
      unread = w.unread;
      source = w.source;
      stands = w.stands;
    }

pub returns-in-Ok-false : goal.returns-in-Ok-false
returns-in-Ok-false c bytes most rows h =
    let read = rw c.in-Ok-false.field-0-test at (c.in-Ok-false.ensures.reads h.trim h.ready) in
    let few : length rows ≤ most = omega (arith, h.count) in
    whole most bytes rows c.args.self.now.reader.state h.unread few h.stands h.fit
    (rows-end (λ (s : Bor (List ℕ)). Some s.now) c.args.self.now.reader c.read_byte_record.new.self (fields_of c.read_byte_record.new.row) default_config h.unread h.config h.source read)

pub returns-then-is_uneven : goal.returns-then-is_uneven
returns-then-is_uneven c bytes most rows h =
    let few : length rows < most = omega (arith, h.count, c.if-self-eq0.false) in
    let uneven : is_uneven c.in-Err.error.kind ≡ true = sym c.is_uneven.ensures ∙ c.if-is_uneven.true in
    refused (λ (s : Bor (List ℕ)). Some s.now) c.args.self.now.reader c.read_byte_record.new.self most bytes h.unread rows c.in-Err.error.kind
    few h.config h.expected h.fit h.source h.stands (c.in-Err.ensures.why h.ready) uneven
