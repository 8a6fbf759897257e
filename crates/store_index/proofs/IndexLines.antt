-- The index of a store, as the code makes it: the lines of one update after the other.
--   lines_none, lines_more      a loop's start and its turn
--   lines_valid                 a store that has an update is valid
--   lines_inside                an update ends at block 32 or before
--   no_lines                    a bad store has none
--   lines_done                  all lines stand: it is the store's index
use Rattle.std.specs.Prelude.{ℕ, ◌+◌, ◌<◌, ◌≤◌, ◌≡◌, refl, Bool, true, false, List, length, get_or, replicate}
use Rattle.std.proofs.Common.{sym, ap, subst, ◌∙◌, true≢false, eq-or-lt_of_le, lt-ltb, le-ltb}
use Rattle.std.proofs.Math.Logic.{⊎_elim}
use native.Mathlib.Omega.{arith}
use Rattle.std.proofs.lemmas.List.{length-replicate}
use Rattle.laws.specs.Arrays.{filled_none}
use Rattle.laws.specs.Orders.{le_or_lt}
use Rattle.laws.specs.Span.{Spans}
use Rattle.laws.specs.Tabulate.{tabulate}
use Rattle.laws.specs.Unless.{unless}
use Rattle.update_header.specs.Fields.{revision}
use Rattle.store_blocks.specs.Blocks.{from_block, block_count}
use Rattle.store_directory.specs.Scan.{first, no_updates, store_ok, directory}
use Rattle.store_directory.specs.Valid.{Owned}
use Rattle.store_directory.specs.DirectoryEntries.{start_of, size_of}
use Rattle.store_directory.specs.DirectoryLaws.{Listing}
use Rattle.store_directory.proofs.DirectoryLaws.{listing}
use Rattle.store_directory.proofs.ValidLaws.{store_valid}
use Rattle.store_directory.specs.declared.Directory.{Directory}
use Rattle.store_index.specs.Index.{unused_line, stored_line, line_at, line_in, line_of, index_by, all_unused, index_of}
use Rattle.store_index.specs.IndexColumns.{columns_of, index_in}
use Rattle.store_index.specs.UpdateLines.{LinesPut}
use Rattle.store_index.proofs.UpdateLineLaws.{columns_are}
use Rattle.store_index.proofs.LineLaws.{owned_or_free, owned_line, free_line}
use Rattle.store_index.specs.IndexLines.{LinesTo}

pub lines_none : (s : List ℕ) (d : Directory) → LinesTo s d 0 (replicate 4 (replicate 32 0))
unfolding line_of
lines_none s d =
    let long : length (replicate {A = ℕ} 32 0) ≡ 32 = length-replicate {A = ℕ} 32 0 in
    record {
      long = record { four = refl; kinds_long = long; starts_long = long; revisions_long = long; sizes_long = long };
      entry = λ j c l h. absurd (let v : ⊥ = omega arith in v);
      rest = λ c n. let z : get_or (replicate {A = ℕ} 32 0) c 0 ≡ 0 = (filled_none {A = ℕ} 0 32 (λ (k : ℕ). 0)).rest c (omega arith) in rw z;
    }

-- a bad store has no entries
pub lines_valid : (s : List ℕ) (d : Directory) → d ≡ directory s → (i : ℕ) → i < d.count → store_ok s ≡ true
unfolding directory no_updates
lines_valid s d e i l = go (store_ok s) refl
  where
    go : (t : Bool) → store_ok s ≡ t → store_ok s ≡ true
    go true q = q
    go false q =
        let none : d.count ≡ 0 = ap (λ (x : Directory). x.count) e ∙ rw q in
        absurd (let v : ⊥ = omega (arith, none) in v)

-- a bad store has none
none_counted : (s : List ℕ) (d : Directory) → d ≡ directory s → store_ok s ≡ false → d.count ≡ 0
none_counted s d e h =
    ⊎_elim (λ (l : d.count ≤ 0). omega arith) (λ (l : 0 < d.count). absurd (true≢false (sym (lines_valid s d e 0 l) ∙ h))) (le_or_lt d.count 0)

module _ (s : List ℕ) (d : Directory) (e : d ≡ directory s) (good : store_ok s ≡ true) where
  entries : Listing s d
  entries = listing s good d e

  pub lines_inside : (i start size : ℕ) → i < d.count → start ≡ start_of d i → size ≡ size_of d i → start + size ≤ 32
  lines_inside i start size l q k = omega (arith, entries.ends i l, (store_valid s good).few)

  -- one more update, at entry i
  module _ (i start size revised : ℕ) (l : i < d.count) (q : start ≡ start_of d i) (k : size ≡ size_of d i) (v : revised ≡ revision (from_block s start)) (old new : List (List ℕ)) (to : LinesTo s d i old)
      (p : LinesPut start revised size (start + size) old new) where
    inside : (c : ℕ) → Spans start size c → line_of (index_in new) c ≡ stored_line s (start_of d i) c
    unfolding stored_line
    inside c h = p.inside c h.from h.upto ∙ rw (v, q, ← entries.sized i l, ← k)

    outside : (c : ℕ) → (Spans start size c → ⊥) → line_of (index_in new) c ≡ line_of (index_in old) c
    outside c n =
        ⊎_elim
        (λ (m : start ≤ c).
        ⊎_elim (λ (w : start + size ≤ c). p.behind c w) (λ (w : c < start + size). absurd (n (record { from = m; upto = w }))) (le_or_lt (start + size) c))
        (λ (m : c < start). p.before c m)
        (le_or_lt start c)

    pub lines_more : LinesTo s d (i + 1) new
    lines_more = record {
      long = p.long;
      entry = λ j c m h.
          ⊎_elim (λ (w : j ≡ i). rw w (inside c (rw (q, k) (rw w at h))))
          (λ (w : j < i). outside c (λ x. omega (arith, entries.order i j w l, h.upto, x.from)) ∙ to.entry j c w h)
          (eq-or-lt_of_le {n = j} {m = i} (omega arith));
      rest = λ c n. outside c (λ x. n i (omega arith) (rw (← q, ← k) x)) ∙ to.rest c (λ j m. n j (omega arith));
    }

  -- a block by the entries
  module _ (cs : List (List ℕ)) (to : LinesTo s d d.count cs) where
    owned_line_is : (c : ℕ) → c < block_count s → (a : ℕ) → Owned s (first s) a c → line_of (index_in cs) c ≡ line_at s c
    owned_line_is c l a o =
        let w = entries.every a (omega (arith, o.from)) o.at in
        to.entry w.0 c w.1 (record { from = omega (arith, o.from, w.2); upto = rw (w.2, entries.sized w.0 w.1, w.2) o.upto })
        ∙ ap (λ (b : ℕ). stored_line s b c) w.2 ∙ sym (owned_line s good c l a o)

    free_line_is : (c : ℕ) → c < block_count s → ((a : ℕ) → Owned s (first s) a c → ⊥) → line_of (index_in cs) c ≡ line_at s c
    free_line_is c l none =
        to.rest c (λ j m h. none (start_of d j) (record { at = entries.begin j m; from = h.from; upto = rw (← entries.sized j m) h.upto }))
        ∙ sym (free_line s good c l none)

    line : (c : ℕ) → line_of (index_in cs) c ≡ line_in s c
    unfolding line_in unless
    line c =
        ⊎_elim
        (λ (l : block_count s ≤ c). to.rest c (λ j m h. omega (arith, entries.ends j m, h.upto)) ∙ rw (le-ltb c (block_count s) l))
        (λ (l : c < block_count s). ⊎_elim (λ (w : (a : ℕ) × Owned s (first s) a c). owned_line_is c l w.0 w.1) (free_line_is c l) (owned_or_free s good c l) ∙ rw (lt-ltb c (block_count s) l))
        (le_or_lt (block_count s) c)

    all_lines : cs ≡ columns_of (index_of s)
    unfolding index_of unless
    all_lines = columns_are (line_in s) cs to.long (λ c l. line c) ∙ rw good

-- all entries, of a valid store or a bad one
module _ (s : List ℕ) (d : Directory) (e : d ≡ directory s) where
  pub no_lines : (cs : List (List ℕ)) → store_ok s ≡ false → LinesTo s d 0 cs → cs ≡ columns_of (index_of s)
  unfolding index_of all_unused index_by unless tabulate
  no_lines cs h to =
      columns_are (λ b. unused_line) cs to.long (λ c l. to.rest c (λ j m. absurd (let v : ⊥ = omega arith in v)))
      ∙ rw h

  pub lines_done : (i : ℕ) (cs : List (List ℕ)) → LinesTo s d i cs → i ≤ d.count → d.count ≤ i → cs ≡ columns_of (index_of s)
  lines_done i cs to l m =
      let q : i ≡ d.count = omega arith in
      go (store_ok s) refl (rw q at to)
    where
      go : (t : Bool) → store_ok s ≡ t → LinesTo s d d.count cs → cs ≡ columns_of (index_of s)
      go true h k = all_lines s d e h cs k
      go false h k = no_lines cs h (subst (λ (j : ℕ). LinesTo s d j cs) (none_counted s d e h) k)
