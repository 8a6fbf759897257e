-- The size rule at each of its tests, and what right sizes say, as inequalities.
--   Sized             what right D and T say, with n entries
use Rattle.std.specs.Prelude.{ℕ, ◌+◌, ◌*◌, ◌%◌, ◌≤◌, min, ◌≡◌}

-- D and T are right, with n entries
pub record Sized (d t n : ℕ) : Type 0 where
  pub dwords : d % 4 ≡ 0
  pub small : t ≤ 32768
  pub few : n ≤ 64
  pub layout : t ≡ 48 + d + 20 * min 1 n + 12 * n
