use Rattle.std.proofs.Common.{refl}
use Rattle.json_fields.proofs.Json.{is_json, no_json}
use Rattle.json_fields.proofs.json_value.Goals as goal

pub returns-in-Ok : goal.returns-in-Ok
returns-in-Ok c = let e = is_json _ _ c.in-Ok.ensures.ok.0 c.in-Ok.ensures.ok.1 in rw e refl

pub returns-in_default : goal.returns-in_default
returns-in_default c = let e = no_json c.args.bytes.now (c.in-Err.ensures.err (λ m. c.in_default.not-Memory (c.classify.ensures.memory.1 m))) in rw e refl
