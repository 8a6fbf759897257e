-- How many updates are lost, counted no further than a limit.
--   capped       a number, up to a limit
use Rattle.std.specs.Prelude.{ℕ, cond, ltb}

unfoldable pub capped : ℕ → ℕ → ℕ
capped limit c = cond (ltb c limit) c limit
