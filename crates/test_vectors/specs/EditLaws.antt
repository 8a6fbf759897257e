-- Laws of a step that sets bytes.
--   fill_none, fill_more, fill_done    n bytes from `at` on set to one byte, one after another: none, one more, all
--   fill_part                          the part as a slice, all of it one byte, put back in its place
--   no_part, too_many                  the ways of the code on which nothing is set
--   put_set, fill_set                  those on which the part is set
--   Made                               the state and the three buffers after the step are those of the definitions
--   store_set .. none_set              so they are: an arm for each buffer, for no buffer, and for no edit
use Rattle.std.specs.Prelude.{◌≡◌, ℕ, ◌+◌, ◌<◌, ◌≤◌, Bool, true, false, List, length, replicate, ◌≢◌, nat_le, slice_set, Option, Some, None, refl}
use Rattle.std.proofs.Common.{arith}
use Rattle.std.proofs.Math.Bool.{and-false}
use Rattle.std.proofs.Math.Numerals.{add-one}
use Rattle.std.proofs.Math.ListN.{length-replicate, get_or-replicate}
use Rattle.std.proofs.Math.Seq.{paste-zero, paste-suc}
use Rattle.std.proofs.lemmas.Slice.{put_mid-paste}
use borrow.Rule.Slice.PartMut.{put_mid}
use borrow.Author.Tests.{le-leb, lt-leb, ne_eqb}
use Rattle.bytes_copy.specs.Paste.{put_at}
use Rattle.test_vectors.specs.declared.edits.Edit.{Edit}
use Rattle.test_vectors.specs.declared.state.State.{State}
use Rattle.test_vectors.specs.RunState.{judged}
use Rattle.test_vectors.specs.Edits.{following, source, fits, edited, sets, edit_good, edited_by}

module _ (d : List ℕ) (at n byte : ℕ) where
  pub fill_none : d ≡ put_at d at (replicate n byte) 0
  unfolding put_at
  fill_none = paste-zero d at (replicate n byte)

  pub fill_more : (r : List ℕ) (i : ℕ) → r ≡ put_at d at (replicate n byte) i → at + n ≤ length d → i < n → slice_set r (at + i) byte ≡ put_at d at (replicate n byte) (i + 1)
  unfolding put_at
  fill_more r i e p q =
      rw (e, add-one i, ← paste-suc d at (replicate n byte) i 0 (omega arith) (omega (arith, length-replicate {A = ℕ} n byte)), get_or-replicate n i byte 0 q)

  pub fill_done : (r : List ℕ) (i : ℕ) → r ≡ put_at d at (replicate n byte) i → i ≤ n → n ≤ i → r ≡ put_at d at (replicate n byte) n
  fill_done r i e p q = let k : i ≡ n = omega arith in rw k at e

  pub fill_part : (k : ℕ) (ys : List ℕ) → ys ≡ replicate n byte → n ≡ k → put_mid at k d ys ≡ put_at d at (replicate n byte) n
  unfolding put_at
  fill_part k ys e q = put_mid-paste at k d ys (replicate n byte) n e q (omega (arith, length-replicate {A = ℕ} n byte))

module _ (e : Edit) (bytes s : List ℕ) where
  pub no_part : length s < e.offset + e.count → (false ≡ fits e s) × (s ≡ edited e bytes s)
  unfolding fits edited
  no_part l = rw (lt-leb (e.offset + e.count) (length s) l) (refl, refl)

  pub too_many : e.byte ≡ None → following < e.count → (false ≡ fits e s) × (s ≡ edited e bytes s)
  unfolding fits edited source
  too_many f l = rw (f, lt-leb e.count following l, and-false (nat_le (e.offset + e.count) (length s))) (refl, refl)

  module _ (r : List ℕ) (l : e.offset + e.count ≤ length s) where
    pub put_set : e.byte ≡ None → e.count ≤ following → r ≡ put_at s e.offset bytes e.count → (true ≡ fits e s) × (r ≡ edited e bytes s)
    unfolding fits edited source
    put_set f m h = rw (f, le-leb (e.offset + e.count) (length s) l, le-leb e.count following m) (refl, h)

    pub fill_set : (byte : ℕ) → e.byte ≡ Some byte → r ≡ put_at s e.offset (replicate e.count byte) e.count
        → (true ≡ fits e s) × (r ≡ edited e bytes s)
    unfolding fits edited source
    fill_set byte f h = rw (f, le-leb (e.offset + e.count) (length s) l) (refl, h)

-- x, y and z are the buffers afterwards
module _ (bytes store candidate destination : List ℕ) (s : State) (r : Option State) where
  abbrev pub Made : Option Edit → List ℕ → List ℕ → List ℕ → Type 0
  Made (Some e) x y z =
      (r ≡ judged s (edit_good e store candidate destination))
      × ((x ≡ edited_by e 0 bytes store) × ((y ≡ edited_by e 1 bytes candidate) × (z ≡ edited_by e 2 bytes destination)))
  Made None x y z = (r ≡ None) × ((x ≡ store) × ((y ≡ candidate) × (z ≡ destination)))

  module _ (edit : Option Edit) (e : Edit) (g : edit ≡ Some e) where
    module _ (t : Bool) (h : r ≡ judged s t) where
      pub store_set : (x : List ℕ) → e.buffer ≡ 0 → t ≡ fits e store → x ≡ edited e bytes store → Made edit x candidate destination
      unfolding sets edit_good edited_by fits source edited
      store_set x k f q = rw (g, k) (rw (← f) h, (q, (refl, refl)))

      pub candidate_set : (x : List ℕ) → e.buffer ≡ 1 → t ≡ fits e candidate → x ≡ edited e bytes candidate → Made edit store x destination
      unfolding sets edit_good edited_by fits source edited
      candidate_set x k f q = rw (g, k) (rw (← f) h, (refl, (q, refl)))

      pub destination_set : (x : List ℕ) → e.buffer ≡ 2 → t ≡ fits e destination → x ≡ edited e bytes destination → Made edit store candidate x
      unfolding sets edit_good edited_by fits source edited
      destination_set x k f q = rw (g, k) (rw (← f) h, (refl, (refl, q)))

    pub other_set : r ≡ judged s false → (e.buffer ≢ 0) → (e.buffer ≢ 1) → (e.buffer ≢ 2) → Made edit store candidate destination
    unfolding sets edit_good edited_by
    other_set h n0 n1 n2 = rw (g, ne_eqb e.buffer 0 n0, ne_eqb e.buffer 1 n1, ne_eqb e.buffer 2 n2) (h, (refl, (refl, refl)))

  pub none_set : (edit : Option Edit) → edit ≡ None → r ≡ judged s false → Made edit store candidate destination
  none_set edit g h = rw g (h, (refl, (refl, refl)))

pub ruleset filling = (fill_none, fill_more, fill_done)
