-- What a command line asks for, by its command.
use Rattle.std.specs.Prelude.{◌≡◌, ◌≤◌, false, true}
use Rattle.lab_words.specs.declared.Verb.TheVariants as verb
use Rattle.lab_words.specs.Command.{CommandWords}
use Rattle.abrlab_top.specs.declared.request.Request.{Request}
use Rattle.abrlab_top.specs.declared.request.Request.TheVariants as request
use Rattle.abrlab_top.specs.Plan.{options_of}

-- it is what these words ask for
abbrev pub IsRequest : CommandWords → Request → Type 0
IsRequest c (request.Simulate words) = (c.verb ≡ verb.Simulate) × (c.players ≡ false) × (words ≡ c)
IsRequest c (request.Players words) = (c.verb ≡ verb.Simulate) × (c.players ≡ true) × (words ≡ c)
IsRequest c (request.Compare words) = (c.verb ≡ verb.Compare) × (c.regret ≡ false) × (words ≡ c)
IsRequest c (request.Regret words) = (c.verb ≡ verb.Compare) × (c.regret ≡ true) × (c.near ≡ false) × (words ≡ c)
IsRequest c (request.NearRegret words) = (c.verb ≡ verb.Compare) × (c.regret ≡ true) × (c.near ≡ true) × (words ≡ c)
IsRequest c (request.Plan words options) = (c.verb ≡ verb.Plan) × (c.near ≡ false) × (words ≡ c) × (options ≡ options_of c)
IsRequest c (request.NearPlan words as_certificate) = (c.verb ≡ verb.Plan) × (c.near ≡ true) × (words ≡ c) × (as_certificate ≡ c.as_certificate)
IsRequest c (request.Check words) = (c.verb ≡ verb.Check) × (c.near ≡ false) × (words ≡ c)
IsRequest c (request.PriceCheck words) = (c.verb ≡ verb.Check) × (c.near ≡ true) × (words ≡ c)
IsRequest c (request.Demo number) = (c.verb ≡ verb.Demo) × (number ≡ c.number) × (number ≤ 2147483647)
