-- The scan of the directory that tells whether an index is the store's own.
--   behind_none, behind_more     the entries passed, and those ahead
--   entry_inside, end_inside     an entry ends at block 32 or before
--   own_none, own_more           the lines of the entries passed are the store's own exactly if nothing differs: a loop's start and its turn
--   blocks_none .. blocks_more   their blocks are the used lines of the store before the next entry
--   own_done                     the loop's end
use Rattle.std.specs.Prelude.{ℕ, ◌+◌, ◌<◌, ◌≤◌, ◌≡◌, Bool, List, ◌↔◌, eqb, Some}
use Rattle.std.proofs.Math.Path.{refl, sym, ap}
use Rattle.std.proofs.Common.{◌∙◌, true≢false, eq-or-lt_of_le, add-one}
use Rattle.std.proofs.Math.Bool.{true, false}
use Rattle.std.proofs.Math.Logic.{⊎_elim}
use native.Mathlib.Omega.{arith}
use Rattle.std.specs.Int.Bits.{bit_or, bit_xor, or_zero_l, xor_self}
use borrow.Author.Tests.{eqb-true, eq-eqb, lt-ltb, le-ltb}
use Rattle.laws.specs.Bits.{or_none, xor_none}
use Rattle.laws.specs.Bools.{bool_same}
use Rattle.laws.specs.Count.{count_below, count_most, count_cong, count_gap, count_run, count_full}
use Rattle.laws.specs.Orders.{le_or_lt}
use Rattle.laws.specs.Span.{Spans}
use Rattle.laws.specs.Unless.{unless}
use Rattle.update_header.specs.Fields.{revision}
use Rattle.store_blocks.specs.Blocks.{from_block, block_count}
use Rattle.store_directory.specs.Scan.{first, size_at, store_ok, stored}
use Rattle.store_directory.specs.Valid.{Owned}
use Rattle.store_directory.specs.DirectoryEntries.{start_of, size_of}
use Rattle.store_directory.proofs.StoreLaws.{stored_some}
use Rattle.store_directory.proofs.ValidLaws.{store_valid}
use Rattle.store_directory.specs.DirectoryLaws.{Listing}
use Rattle.store_directory.proofs.DirectoryLaws.{listing}
use Rattle.store_directory.specs.declared.Directory.{Directory}
use Rattle.store_index.specs.declared.Index.{Index}
use Rattle.store_index.specs.Index.{unused_line, update_line, stored_line, line_in, line_of, index_of}
use Rattle.store_index.specs.SameIndex.{same_index}
use Rattle.store_index.specs.SameIndexLaws.{same_lines, lines_same}
use Rattle.store_index.proofs.LineLaws.{owned_or_free, owned_line, free_line, line_by}
use Rattle.store_index.specs.OwnLines.{used_line, used_in, used_of, UpdateFrom, Gathered, end_to, Behind, EntriesOwn}
use Rattle.store_index.specs.OwnLineLaws.{used_no, used_unused, used_update}

pub behind_none : (d : Directory) → Behind d 0 (end_to d 0)
unfolding end_to
behind_none d = record { passed = λ j l. absurd (let v : ⊥ = omega arith in v); ahead = λ j l m. omega arith }

pub blocks_none : (s : List ℕ) (d : Directory) → (0 ≡ count_below (end_to d 0) (used_of s)) × (end_to d 0 ≤ 32)
unfolding end_to count_below
blocks_none s d = (refl, omega arith)

pub blocks_few : (s : List ℕ) (next blocks : ℕ) → blocks ≡ count_below next (used_of s) → next ≤ 32 → blocks ≤ 32
blocks_few s next blocks e l = omega (arith, count_most (used_of s) next)

pub own_none : (s : List ℕ) (d : Directory) (x : Index) (differs : ℕ) → differs ≡ 0 → (differs ≡ 0) ↔ EntriesOwn s d x 0
unfolding EntriesOwn
own_none s d x differs z = (λ e j c l h. absurd (let v : ⊥ = omega arith in v), λ h. z)

module _ (s : List ℕ) (d : Directory) (read : stored s ≡ Some d) where
  good : store_ok s ≡ true
  good = (stored_some s d read).1

  entries : Listing s d
  entries = listing s good d (stored_some s d read).0

  pub behind_more : (i : ℕ) → i < d.count → Behind d (i + 1) (end_to d (i + 1))
  unfolding end_to
  behind_more i l = rw (add-one i) (record {
    passed = λ j m.
        ⊎_elim (λ (w : j ≡ i). rw w (omega arith)) (λ (w : j < i). omega (arith, entries.order i j w l)) (eq-or-lt_of_le {n = j} {m = i} (omega arith));
    ahead = λ j m n. entries.order j i (omega arith) n;
  })

  -- an entry ends at block 32 or before
  pub entry_inside : (i start size : ℕ) → i < d.count → start ≡ start_of d i → size ≡ size_of d i → start + size ≤ 32
  entry_inside i start size l q k = omega (arith, entries.ends i l, (store_valid s good).few)

  pub end_inside : (i : ℕ) → i < d.count → end_to d (i + 1) ≤ 32
  unfolding end_to
  end_inside i l = rw (add-one i) (entry_inside i (start_of d i) (size_of d i) l refl refl)

  -- a line behind N, and one of a block that no update has
  behind_blocks : (c : ℕ) → block_count s ≤ c → line_in s c ≡ unused_line
  unfolding line_in unless
  behind_blocks c l = rw (le-ltb c (block_count s) l)

  free_in : (c : ℕ) → c < block_count s → ((b : ℕ) → Owned s (first s) b c → ⊥) → line_in s c ≡ unused_line
  unfolding line_in unless
  free_in c l n = rw (lt-ltb c (block_count s) l) (free_line s good c l n)

  -- a line at or behind `next` and before the next entry
  module _ (i next c : ℕ) (h : Behind d i next) (from : next ≤ c) (upto : i < d.count → c < start_of d i) where
    not_owned : c < block_count s → (a : ℕ) → Owned s (first s) a c → ⊥
    not_owned l a o =
        let w = entries.every a (omega (arith, o.from)) o.at in
        let z : c < a + size_of d w.0 = rw (entries.sized w.0 w.1, w.2) o.upto in
        ⊎_elim
        (λ (m : i ≤ w.0).
        let k : i < d.count = omega (arith, w.1) in
        ⊎_elim (λ (q : i ≡ w.0). omega (arith, upto k, ap (start_of d) q, w.2, o.from)) (λ (q : i < w.0). omega (arith, upto k, entries.order w.0 i q w.1, w.2, o.from))
        (eq-or-lt_of_le m))
        (λ (m : w.0 < i). omega (arith, h.passed w.0 m, w.2))
        (le_or_lt i w.0)

    gap_line : line_in s c ≡ unused_line
    gap_line = ⊎_elim (λ (l : block_count s ≤ c). behind_blocks c l) (λ (l : c < block_count s). free_in c l (not_owned l)) (le_or_lt (block_count s) c)

  -- the line of a block of entry i
  entry_line_lem : (i start size revised c : ℕ) → i < d.count → start ≡ start_of d i → size ≡ size_of d i → revised ≡ revision (from_block s start)
      → start ≤ c → c < start + size → line_in s c ≡ update_line start revised size c
  unfolding line_in unless stored_line
  entry_line_lem i start size revised c l q k v from upto =
      let m : c < block_count s = omega (arith, entries.ends i l) in
      let z : size ≡ size_at s start = k ∙ entries.sized i l ∙ ap (size_at s) (sym q) in
      let o : Owned s (first s) start c = record { at = ap (first s) q ∙ entries.begin i l; from = from; upto = rw (← z) upto } in
      rw (lt-ltb c (block_count s) m, v, z) (owned_line s good c m start o)

  -- one more entry
  module _ (i start size revised : ℕ) (l : i < d.count) (q : start ≡ start_of d i) (k : size ≡ size_of d i) (v : revised ≡ revision (from_block s start)) where
    line : (c : ℕ) → start ≤ c → c < start + size → line_in s c ≡ update_line start revised size c
    line c = entry_line_lem i start size revised c l q k v

    pub own_more : (x : Index) (differs now : ℕ) → (differs ≡ 0) ↔ EntriesOwn s d x i → Gathered now differs (UpdateFrom x start revised size (start + size))
        → (now ≡ 0) ↔ EntriesOwn s d x (i + 1)
    unfolding EntriesOwn UpdateFrom
    own_more x differs now a u = (
      λ z.
          let w = u.0 z in
          λ j c m h.
          ⊎_elim
          (λ (p : j ≡ i).
          let g : Spans start size c = rw (q, k) (rw p at h) in
          w.1 c g.from g.upto ∙ sym (line c g.from g.upto))
          (λ (p : j < i). a.0 w.0 j c p h)
          (eq-or-lt_of_le {n = j} {m = i} (omega arith)),
      λ own.
          u.1 (
            a.1 (λ j c m h. own j c (omega arith) h),
            λ c m n. own i c (omega arith) (rw (← q, ← k) (record { from = m; upto = n })) ∙ line c m n,
          ),
    )

    -- its blocks are counted
    pub blocks_more : (blocks : ℕ) → blocks ≡ count_below (end_to d i) (used_of s) → Behind d i (end_to d i) → blocks + size ≡ count_below (end_to d (i + 1)) (used_of s)
    unfolding used_of end_to
    blocks_more blocks h p =
        let n : end_to d i ≤ start = omega (arith, p.ahead i (omega arith) l) in
        rw (add-one i, ← q, ← k, h)
        (sym (count_run (used_of s) start size (λ c m w. ap used_line (line c m w) ∙ used_update start revised size c)
        ∙ ap (λ (y : ℕ). y + size) (count_gap (used_of s) (end_to d i) start n
        (λ c m w. ap used_line (gap_line i (end_to d i) c p m (λ z. omega (arith, w))) ∙ used_unused))))

  -- all entries: x is the store's own index exactly if the lines of the entries are, and it has no more used lines than they
  module _ (x : Index) (i blocks used differs : ℕ) (all : i ≡ d.count) (p : Behind d i (end_to d i)) (few : end_to d i ≤ 32) (a : (differs ≡ 0) ↔ EntriesOwn s d x i) (n : blocks ≡ count_below (end_to d i) (used_of s))
      (m : used ≡ count_below 32 (used_in x)) where
    -- behind the last entry nothing is used
    all_blocks : blocks ≡ count_below 32 (used_of s)
    unfolding used_of
    all_blocks =
        n ∙ sym (count_gap (used_of s) (end_to d i) 32 few
        (λ c l w. ap used_line (gap_line i (end_to d i) c p l (λ z. absurd (let v : ⊥ = omega arith in v))) ∙ used_unused))

    -- a used line of the store is one of an entry
    used_entry : EntriesOwn s d x i → (c : ℕ) → used_of s c ≡ true → line_of x c ≡ line_in s c
    unfolding used_of EntriesOwn
    used_entry own c h =
        ⊎_elim
        (λ (l : block_count s ≤ c). absurd (true≢false (sym h ∙ ap used_line (behind_blocks c l) ∙ used_unused)))
        (λ (l : c < block_count s).
        ⊎_elim
        (λ (w : (b : ℕ) × Owned s (first s) b c).
        let o = w.1 in
        let y = entries.every w.0 (omega (arith, o.from)) o.at in
        own y.0 c (omega (arith, y.1)) (record { from = omega (arith, o.from, y.2); upto = rw (y.2, entries.sized y.0 y.1, y.2) o.upto }))
        (λ (w : (b : ℕ) → Owned s (first s) b c → ⊥). absurd (true≢false (sym h ∙ ap used_line (free_in c l w) ∙ used_unused)))
        (owned_or_free s good c l))
        (le_or_lt (block_count s) c)

    own : (c : ℕ) → c < 32 → line_of (index_of s) c ≡ line_in s c
    unfolding index_of unless
    own c l = rw good (line_by (line_in s) c l)

    -- the lines are the same
    lines_own : EntriesOwn s d x i → used ≡ blocks → (c : ℕ) → c < 32 → line_of x c ≡ line_in s c
    unfolding used_in used_of
    lines_own e h c l =
        let same = count_full (used_of s) (used_in x) 32 (λ j w u. ap used_line (used_entry e j u) ∙ u) (sym all_blocks ∙ sym h ∙ m) c l in
        go (used_of s c) refl same
      where
        go : (t : Bool) → used_of s c ≡ t → used_of s c ≡ used_in x c → line_of x c ≡ line_in s c
        go true u z = used_entry e c u
        go false u z = used_no (line_of x c) (sym z ∙ u) ∙ sym (used_no (line_in s c) u)

    pub own_done : eqb (bit_or differs (bit_xor used blocks)) 0 ≡ same_index x (index_of s)
    unfolding EntriesOwn used_in used_of
    own_done =
        bool_same (eqb (bit_or differs (bit_xor used blocks)) 0) (same_index x (index_of s))
        (λ z.
        let w = or_none differs (bit_xor used blocks) (eqb-true (bit_or differs (bit_xor used blocks)) 0 z) in
        lines_same x (index_of s) (λ c l. lines_own (a.0 w.0) (xor_none used blocks w.1) c l ∙ sym (own c l)))
        (λ z.
        let same : (c : ℕ) → c < 32 → line_of x c ≡ line_in s c = λ c l. same_lines x (index_of s) z c l ∙ own c l in
        let e : differs ≡ 0 = a.1 (λ j c l h. same c (omega (arith, h.upto, entry_inside j (start_of d j) (size_of d j) (omega arith) refl refl))) in
        let u : used ≡ blocks = m ∙ count_cong (used_in x) (used_of s) 32 (λ c l. ap used_line (same c l)) ∙ sym all_blocks in
        eq-eqb (bit_or differs (bit_xor used blocks)) 0 (rw (e, u, xor_self blocks) (or_zero_l 0)))
