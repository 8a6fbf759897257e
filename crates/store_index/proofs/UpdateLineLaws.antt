-- Loops that write lines into lent columns.
--   columns_in                            columns are those of the index that they hold
--   columns_are                           columns are settled by their 32 lines
--   put_line_lem                          one line
--   lines_begin, lines_turn, lines_end    the lines of an update: the loop's start, its turn and its end
use Rattle.std.specs.Prelude.{ℕ, ◌+◌, ◌<◌, ◌≤◌, ◌≡◌, refl, List, [], ◌∷◌, length}
use Rattle.std.proofs.Common.{sym, ap, subst, ◌∙◌, eq-or-lt_of_le, arith}
use Rattle.std.proofs.Math.Logic.{⊎_elim}
use Rattle.std.proofs.Math.ListN.{length-set}
use Rattle.std.proofs.Math.Seq.{get_or-set_same, get_or-set_other}
use Rattle.store_index.specs.declared.Line.{Line}
use Rattle.store_index.specs.declared.Index.{Index}
use Rattle.store_index.specs.Index.{update_line, line_of, index_by}
use Rattle.store_index.specs.IndexColumns.{columns_of, index_in}
use Rattle.store_index.specs.UpdateLines.{Columns, kind_from, line, LinePut, LinesPut}
use Rattle.store_index.proofs.LineLaws.{index_is}
use Rattle.store_index.specs.UpdateLineLaws.{put_at}

pub columns_in : (cs : List (List ℕ)) → length cs ≡ 4 → cs ≡ columns_of (index_in cs)
columns_in [] e = absurd (let v : ⊥ = omega (arith, e) in v)
columns_in (a ∷ []) e = absurd (let v : ⊥ = omega (arith, e) in v)
columns_in (a ∷ b ∷ []) e = absurd (let v : ⊥ = omega (arith, e) in v)
columns_in (a ∷ b ∷ c ∷ []) e = absurd (let v : ⊥ = omega (arith, e) in v)
columns_in (a ∷ b ∷ c ∷ d ∷ []) e = refl
columns_in (a ∷ b ∷ c ∷ d ∷ x ∷ cs) e = absurd (let v : ⊥ = omega (arith, e) in v)

pub columns_are : (f : ℕ → Line) (cs : List (List ℕ)) → Columns cs → ((c : ℕ) → c < 32 → line_of (index_in cs) c ≡ f c) → cs ≡ columns_of (index_by f)
columns_are f cs n h =
    columns_in cs n.four ∙ ap columns_of (index_is f (index_in cs) n.kinds_long n.starts_long n.revisions_long n.sizes_long h)

-- four numbers put at place b, as the code does it
module _ (b kind start revised size : ℕ) (l : b < 32) where
  abbrev put_line : List (List ℕ) → List (List ℕ)
  put_line cs = put_at (put_at (put_at (put_at cs 0 b kind) 1 b start) 2 b revised) 3 b size

  put_in : (x : Index) → Columns (columns_of x) → LinePut b (line kind start revised size) (columns_of x) (put_line (columns_of x))
  unfolding line_of
  put_in x n = record {
    long = record {
      four = refl;
      kinds_long = length-set x.kinds b kind ∙ n.kinds_long;
      starts_long = length-set x.starts b start ∙ n.starts_long;
      revisions_long = length-set x.revisions b revised ∙ n.revisions_long;
      sizes_long = length-set x.sizes b size ∙ n.sizes_long;
    };
    here = rw (
      get_or-set_same x.kinds b kind 0 (omega (arith, n.kinds_long)),
      get_or-set_same x.starts b start 0 (omega (arith, n.starts_long)),
      get_or-set_same x.revisions b revised 0 (omega (arith, n.revisions_long)),
      get_or-set_same x.sizes b size 0 (omega (arith, n.sizes_long)),
    );
    others = λ c w. rw (
      get_or-set_other x.kinds b c kind 0 w,
      get_or-set_other x.starts b c start 0 w,
      get_or-set_other x.revisions b c revised 0 w,
      get_or-set_other x.sizes b c size 0 w,
    );
  }

  pub put_line_lem : (cs : List (List ℕ)) → Columns cs → LinePut b (line kind start revised size) cs (put_line cs)
  put_line_lem cs n =
      let e = columns_in cs n.four in
      subst (λ (d : List (List ℕ)). LinePut b (line kind start revised size) d (put_line d)) (sym e) (put_in (index_in cs) (subst Columns e n))

-- the lines of an update
module _ (start revised size : ℕ) (old : List (List ℕ)) where
  pub lines_begin : Columns old → LinesPut start revised size start old old
  lines_begin n = record { long = n; inside = λ c l m. absurd (let v : ⊥ = omega arith in v); before = λ c l. refl; behind = λ c l. refl }

  -- k is the kind of block b
  pub lines_turn : (b k : ℕ) (new next : List (List ℕ)) → LinesPut start revised size b old new → start ≤ b → k ≡ kind_from start b → LinePut b (line k start revised size) new next
      → LinesPut start revised size (b + 1) old next
  unfolding update_line kind_from
  lines_turn b k new next h l e p = record {
    long = p.long;
    inside = λ c m n.
        ⊎_elim (λ (w : c ≡ b). rw w (p.here ∙ rw e)) (λ (w : c < b). p.others c (λ q. omega arith) ∙ h.inside c m w) (eq-or-lt_of_le {n = c} {m = b} (omega arith));
    before = λ c m. p.others c (λ q. omega arith) ∙ h.before c m;
    behind = λ c m. p.others c (λ q. omega arith) ∙ h.behind c (omega arith);
  }

  pub lines_end : (b end : ℕ) (new : List (List ℕ)) → LinesPut start revised size b old new → b ≤ end → end ≤ b → LinesPut start revised size end old new
  lines_end b end new h l m = let q : b ≡ end = omega arith in rw q at h
