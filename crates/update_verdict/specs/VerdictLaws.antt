-- Laws of the verdict: what a good one says.
--   good_is           the good verdict, of numbers read before
--   judging           the checks in their order, as `search` takes them
--   good_same         the numbers of a good verdict are settled
--   Judged, judged    what a good verdict says of the bytes
--   good_made         a good verdict from the three checks
--   good_size         how long a good update is
--   good_blocks       it has a block
--   verdict_blocks    the blocks that a good verdict names, as `search` takes it
use Rattle.std.specs.Prelude.{◌≡◌, ℕ, ◌+◌, ◌≤◌, Bool, true, false, List, length, refl, Ok}
use Rattle.std.proofs.Common.{sym, ◌∙◌, ap, arith}
use Rattle.laws.specs.Orders.{impossible}
use Rattle.laws.specs.Unless.{unless, unless_pass, unless_stop}
use Rattle.update_header.specs.Fields.{data_size, total_size, entry_count}
use Rattle.update_sizes.specs.Sizes.{blocks_of}
use Rattle.update_verdict.specs.Sums.{sums_ok}
use Rattle.update_header.specs.Checks.{header_ok, sizes_fit}
use Rattle.update_verdict.specs.Verdict.{Verdict, measures, Good, BadHeader, BadSum, verdict}
use Rattle.update_header.specs.Inside.{inside, inside_of, entry_count_is}
use Rattle.update_verdict.specs.declared.Measures.{Measures}

-- the four numbers, read before
pub good_is : (s : List ℕ) (t d n k : ℕ) → t ≡ total_size s → d ≡ data_size s → n ≡ entry_count s → k ≡ blocks_of t → Good t d n k ≡ Good (total_size s) (data_size s) (entry_count s) (blocks_of (total_size s))
good_is s t d n k e f g h = rw (h, e, f, g)

pub ruleset judging = (unless_pass, unless_stop, inside_of, entry_count_is, good_is)

pub record Judged (s : List ℕ) (t d n k : ℕ) : Type 0 where
  pub header : header_ok s ≡ true
  pub sizes : sizes_fit s ≡ true
  pub sums : sums_ok s ≡ true
  pub total : t ≡ total_size s
  pub «data» : d ≡ data_size s
  pub entries : n ≡ entry_count s
  pub blocks : k ≡ blocks_of t

-- two good verdicts that are equal name the same numbers
pub good_same : (t d n k u c m j : ℕ) → Good t d n k ≡ Good u c m j → (u ≡ t) × (c ≡ d) × (m ≡ n) × (j ≡ k)
good_same t d n k u c m j e =
    let w : measures t d n k ≡ measures u c m j = cc in
    (sym (ap (λ (x : Measures). x.total) w), sym (ap (λ (x : Measures). x.data) w), sym (ap (λ (x : Measures). x.entries) w), sym (ap (λ (x : Measures). x.blocks) w))

pub judged : (s : List ℕ) (t d n k : ℕ) → verdict s ≡ Good t d n k → Judged s t d n k
unfolding verdict unless
judged s t d n k e = go (header_ok s) refl (sizes_fit s) refl (sums_ok s) refl e
  where
    go : (a : Bool) → header_ok s ≡ a → (b : Bool) → sizes_fit s ≡ b → (c : Bool) → sums_ok s ≡ c
        → unless a BadHeader (unless b BadHeader (unless c BadSum (Good (total_size s) (data_size s) (entry_count s) (blocks_of (total_size s))))) ≡ Good t d n k → Judged s t d n k
    go true p true q true r e =
        let w = good_same (total_size s) (data_size s) (entry_count s) (blocks_of (total_size s)) t d n k e in
        record { header = p; sizes = q; sums = r; total = w.0; «data» = w.1; entries = w.2; blocks = w.3 ∙ ap blocks_of (sym w.0) }
    go true p true q false r e = absurd (impossible (cc))
    go true p false q c r e = absurd (impossible (cc))
    go false p b q c r e = absurd (impossible (cc))

pub good_made : (s : List ℕ) → header_ok s ≡ true → sizes_fit s ≡ true → sums_ok s ≡ true → verdict s ≡ Good (total_size s) (data_size s) (entry_count s) (blocks_of (total_size s))
unfolding verdict unless
good_made s h k o = rw (h, k, o)

pub good_size : (s : List ℕ) (t d n k : ℕ) → verdict s ≡ Good t d n k → (48 ≤ t) × (t ≤ 32768) × (t ≤ length s) × (48 + d ≤ t)
good_size s t d n k e =
    let g = judged s t d n k e in
    let y = inside s g.sizes in
    let z = y.sized.layout in
    let a = g.total in
    let b = g.data in
    (omega arith, omega (arith, y.sized.small), omega (arith, y.lent), omega arith)

pub good_blocks : (s : List ℕ) (t d n k : ℕ) → verdict s ≡ Good t d n k → 1 ≤ blocks_of t
unfolding blocks_of
good_blocks s t d n k e = omega (arith, (good_size s t d n k e).0)

-- v is what a call answered
pub verdict_blocks : (s : List ℕ) (v : Verdict) (m : Measures) → v ≡ verdict s → v ≡ Ok m → m.blocks ≡ blocks_of m.total
verdict_blocks s v m e h = (judged s m.total m.data m.entries m.blocks (sym e ∙ h)).blocks
