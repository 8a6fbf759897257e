-- The emptied blocks that a write answers.
--   owned_inside       a block of a stored update lies in the store
--   blocks_bit         bit c is set exactly if block c belongs to a stored update of the set
--   emptied_block_lem  block c is one of an emptied update's, by number and by first block
--   blocks_are         the bits that the marks give are the emptied blocks
--   storing            what the proof of the storing step goes by
use Rattle.std.specs.Prelude.{ℕ, ◌<◌, ◌≤◌, ◌≡◌, refl, Bool, true, List, ◌↔◌, get_or}
use Rattle.std.proofs.Math.Path.{sym}
use Rattle.std.proofs.Common.{ap, ◌∙◌, true≢false, lt_of_lt_of_le, arith, pow_mono}
use Rattle.std.proofs.Math.Bool.{false}
use Rattle.std.proofs.Math.Logic.{⊎_elim}
use Rattle.laws.specs.Bools.{and_parts, and_made, no_true, bool_same}
use Rattle.laws.specs.Below.{any_below, any_at, any_stop}
use Rattle.laws.specs.Bits.{bit, bits_below, bits_small, bits_bit, bits_behind, bits_only}
use Rattle.laws.specs.Orders.{le_or_lt}
use Rattle.laws.specs.Span.{spans, spans_law}
use Rattle.update_header.specs.Fields.{total_size}
use Rattle.update_sizes.specs.Sizes.{blocks_of}
use Rattle.store_blocks.specs.Blocks.{block_count}
use Rattle.store_directory.specs.Scan.{first, store_ok, directory}
use Rattle.store_directory.specs.Valid.{Owned}
use Rattle.store_directory.proofs.ValidLaws.{store_valid}
use Rattle.store_directory.specs.SlotLaws.{ends_inside}
use Rattle.store_directory.specs.LayoutLaws.{first_parts}
use Rattle.store_directory.specs.DirectoryEntries.{start_of, size_of}
use Rattle.store_directory.specs.DirectoryLaws.{Listing}
use Rattle.store_directory.proofs.DirectoryLaws.{listing}
use Rattle.write_marks.specs.Against.{emptied_by_number, empties_block, emptied_block}
use Rattle.write_marks.specs.StoredMarks.{stored_of}
use Rattle.write_marks.specs.declared.Marked.{Marked}
use Rattle.write_outcome.specs.OutcomeBytes as outcome
use Rattle.write_outcome.specs.EmptiedBlocks.{emptied_blocks}
use Rattle.write_outcome.proofs.ByteLaws.{emptied_at_lem, at_emptied}
use Rattle.write_call.specs.Write.{emptied_at}
use Rattle.write_call.specs.Storing.{Storing}
use Rattle.write_call.proofs.Storing.{entries_for, entries_fit, emptied_entry, stored_bytes, run_inside, whole_lent}

module _ (old : List ℕ) (ok : store_ok old ≡ true) where
  pub owned_inside : (b c : ℕ) → Owned old (first old) b c → c < block_count old
  owned_inside b c o =
      let j = (first_parts old b o.at).1 in
      omega (arith, rw j.1 at o.upto, ends_inside old (block_count old) b j.0 (store_valid old ok).long j.1)

  module _ (e : ℕ → Bool) (c : ℕ) where
    pub blocks_bit : (bit (emptied_blocks old e) c ≡ true) ↔ ((b : ℕ) × (e b ≡ true) × Owned old (first old) b c)
    unfolding emptied_blocks
    blocks_bit = (
      λ h. ⊎_elim
          (λ (l : block_count old ≤ c). absurd (true≢false (sym h ∙ bits_behind (outcome.emptied_at old e) (block_count old) c l)))
          (λ (l : c < block_count old). emptied_at_lem old e c (sym (bits_bit (outcome.emptied_at old e) (block_count old) c l) ∙ h))
          (le_or_lt (block_count old) c),
      λ w. bits_bit (outcome.emptied_at old e) (block_count old) c (owned_inside w.0 c w.2) ∙ at_emptied old e c w.0 w.1 w.2,
    )

module _ (old cand : List ℕ) (m : Marked) (start : ℕ) (y : Storing old cand m start) (k : ℕ) (e : k ≡ blocks_of (total_size cand)) where
  entries : Listing old (directory old)
  entries = listing old y.ok (directory old) refl

  pub emptied_block_lem : (c : ℕ) → emptied_block (stored_of m) k start c ≡ outcome.emptied_at old (emptied_at old cand start) c
  unfolding emptied_block empties_block stored_of
  emptied_block_lem c = bool_same _ _ to from
    where
      spanned : (i : ℕ) → spans (get_or m.starts i 0) (get_or m.sizes i 0) c ≡ spans (start_of (directory old) i) (size_of (directory old) i) c
      spanned i = rw (y.shared.starts_are, y.sizes)

      to : any_below m.count (empties_block (stored_of m) k start c) ≡ true → outcome.emptied_at old (emptied_at old cand start) c ≡ true
      to h =
          let w = any_at (empties_block (stored_of m) k start c) m.count h in
          let i = w.0 in
          let n : i < (directory old).count = omega (arith, w.1, y.shared.count_is) in
          let x = and_parts (emptied_by_number (stored_of m) k start i) (spans (get_or m.starts i 0) (get_or m.sizes i 0) c) w.2 in
          let s = (spans_law (start_of (directory old) i) (size_of (directory old) i) c).0 (sym (spanned i) ∙ x.1) in
          at_emptied old (emptied_at old cand start) c (start_of (directory old) i) (sym (emptied_entry old cand m start y k i e w.1) ∙ x.0)
          (record { at = entries.begin i n; from = s.from; upto = rw (← entries.sized i n) s.upto })

      from : outcome.emptied_at old (emptied_at old cand start) c ≡ true → any_below m.count (empties_block (stored_of m) k start c) ≡ true
      from h =
          let w = emptied_at_lem old (emptied_at old cand start) c h in
          let o = w.2 in
          let l = owned_inside old y.ok w.0 c o in
          let v = entries.every w.0 (omega (arith, o.from)) o.at in
          let i = v.0 in
          let n : i < m.count = omega (arith, v.1, y.shared.count_is) in
          let s = (spans_law (start_of (directory old) i) (size_of (directory old) i) c).1 (record { from = rw v.2 o.from; upto = rw (entries.sized i v.1, v.2) o.upto }) in
          any_stop (empties_block (stored_of m) k start c) m.count i n
          (and_made (emptied_entry old cand m start y k i e n ∙ ap (emptied_at old cand start) v.2 ∙ w.1) (spanned i ∙ s))

  pub blocks_are : (r : ℕ) → r ≡ bits_below 32 (emptied_block (stored_of m) k start) → r ≡ emptied_blocks old (emptied_at old cand start)
  unfolding emptied_blocks
  blocks_are r h =
      let few = (store_valid old y.ok).few in
      let set = outcome.emptied_at old (emptied_at old cand start) in
      h ∙ sym (bits_only (emptied_block (stored_of m) k start) 32 (bits_below (block_count old) set)
      (lt_of_lt_of_le (bits_small set (block_count old)) (pow_mono few))
      (λ c l. ⊎_elim
      (λ (b : block_count old ≤ c). bits_behind set (block_count old) c b ∙ sym (emptied_block_lem c ∙ behind c b))
      (λ (b : c < block_count old). bits_bit set (block_count old) c b ∙ sym (emptied_block_lem c))
      (le_or_lt (block_count old) c)))
    where
      behind : (c : ℕ) → block_count old ≤ c → outcome.emptied_at old (emptied_at old cand start) c ≡ false
      behind c b = no_true (outcome.emptied_at old (emptied_at old cand start) c) (λ t. let w = emptied_at_lem old (emptied_at old cand start) c t in omega (arith, owned_inside old y.ok w.0 c w.2))

-- t is the candidate's size
pub blocks_answered : (old cand : List ℕ) (m : Marked) (start : ℕ) → Storing old cand m start → (t k r : ℕ) → t ≡ total_size cand → k ≡ blocks_of t
    → r ≡ bits_below 32 (emptied_block (stored_of m) k start) → r ≡ emptied_blocks old (emptied_at old cand start)
blocks_answered old cand m start y t k r e f h = blocks_are old cand m start y k (f ∙ ap blocks_of e) r h

pub ruleset storing = (entries_for, entries_fit, run_inside, whole_lent, blocks_answered, stored_bytes)
