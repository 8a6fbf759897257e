-- Laws of the load choice.
--   holder_one     in a valid store at most one update covers a processor: the holder is that one
--   holder_none    where none covers it there is no holder
--   choice_one, choice_none    in a valid store the update that covers the processor is chosen, and nothing where none covers it
--   finding        the scan of the directory, as `search` takes it
--   choose_bad .. choose_on    the order of the answers
use Rattle.std.specs.Prelude.{ℕ, ◌+◌, ◌<◌, ◌≤◌, ◌≡◌, Bool, true, false, List, Some, Err}
use Rattle.std.proofs.Common.{sym, ◌∙◌, arith}
use Rattle.std.proofs.Math.Bool.{true≢false}
use borrow.Author.Tests.{lt-ltb, le-ltb, le-leb, lt-leb}
use Rattle.laws.specs.Bools.{and_parts, no_true, and_made}
use Rattle.laws.specs.Below.{any_below, any_none, any_more, any_fails, any_false}
use Rattle.laws.specs.First.{first_found, first_none}
use Rattle.laws.specs.Unless.{unless}
use Rattle.update_header.specs.Fields.{revision}
use Rattle.update_coverage.specs.Covers.{covers}
use Rattle.update_coverage.proofs.CoverLaws.{covers_platform}
use Rattle.store_blocks.specs.Blocks.{from_block, block_count}
use Rattle.store_directory.specs.Scan.{first, store_ok, stored}
use Rattle.store_directory.proofs.StoreLaws.{stored_some}
use Rattle.store_directory.proofs.ValidLaws.{store_valid}
use Rattle.store_directory.specs.DirectoryEntries.{start_of}
use Rattle.store_directory.proofs.DirectoryLaws.{listing}
use Rattle.store_directory.specs.declared.Directory.{Directory}
use Rattle.load_choice.specs.Load.{holds, holder, chosen_at, found, load_choice}
use Rattle.call_answers.specs.Choice.{LoadChoice, Nothing, Chosen}
use Rattle.call_answers.specs.declared.refusal.Refusal.TheVariants.{BadStore, BadProcessors}

module _ (s : List ℕ) (ok : store_ok s ≡ true) (x p : ℕ) where
  -- two updates of a valid store that cover the processor are one
  only : (b c : ℕ) → b < block_count s → c < b → first s b ≡ true → first s c ≡ true → covers (from_block s b) x p ≡ true → covers (from_block s c) x p ≡ true → ⊥
  only b c l m f g h k =
      (store_valid s ok).apart b c m l f g
      (record { signature = x; platform = p; processor = covers_platform (from_block s b) x p h; left = h; right = k })

  pub holder_one : (b : ℕ) → b < block_count s → first s b ≡ true → covers (from_block s b) x p ≡ true → holder s x p ≡ b
  unfolding holder holds
  holder_one b l f h =
      first_found (block_count s) b (holds s x p)
      (any_false (holds s x p) b (λ c m. no_true (holds s x p c) (λ t. let y = and_parts (first s c) (covers (from_block s c) x p) t in only b c l m f y.0 h y.1)))
      l (and_made f h)

  pub holder_none : ((b : ℕ) → b < block_count s → first s b ≡ true → covers (from_block s b) x p ≡ false) → holder s x p ≡ block_count s
  unfolding holder holds
  holder_none h =
      first_none (block_count s) (holds s x p)
      (any_false (holds s x p) (block_count s) (λ b l. no_true (holds s x p b) (λ t. let y = and_parts (first s b) (covers (from_block s b) x p) t in true≢false (sym y.1 ∙ h b l y.0))))

-- the update of entry i covers the processor
unfoldable pub covers_entry : List ℕ → Directory → ℕ → ℕ → ℕ → Bool
covers_entry s d x p i = covers (from_block s (start_of d i)) x p

-- the scan: r is what a call answered of the part u at the start of entry i
module _ (s u : List ℕ) (d : Directory) (x p i start : ℕ) (r : Bool) (read : stored s ≡ Some d) (st : start ≡ start_of d i)
    (part : u ≡ from_block s start) (h : r ≡ covers u x p) where
  pub find_more : any_below i (covers_entry s d x p) ≡ false → r ≡ false → any_below (i + 1) (covers_entry s d x p) ≡ false
  unfolding covers_entry
  find_more none k = any_more (covers_entry s d x p) i none (rw (← st, ← part) (sym h ∙ k))

  pub find_stop : (v : ℕ) → i < d.count → r ≡ true → v ≡ revision u → Chosen start v ≡ found s x p
  unfolding found chosen_at unless
  find_stop v l k q =
      let w = stored_some s d read in
      let good = w.1 in
      let y = listing s good d w.0 in
      let b : start < block_count s = rw st (omega (arith, y.ends i l, y.some i l)) in
      rw (holder_one s good x p start b (rw st (y.begin i l)) (rw (← part) (sym h ∙ k)), lt-ltb start (block_count s) b, q, part)

pub find_done : (s : List ℕ) (d : Directory) (x p i : ℕ) → stored s ≡ Some d → any_below i (covers_entry s d x p) ≡ false → i ≤ d.count → d.count ≤ i → Nothing ≡ found s x p
unfolding found chosen_at unless covers_entry
find_done s d x p i read none l m =
    let v = stored_some s d read in
    let good = v.1 in
    let y = listing s good d v.0 in
    rw (holder_none s good x p (λ b q f. let w = y.every b q f in rw w.2 at (any_fails (covers_entry s d x p) i w.0 none (omega (arith, w.1)))), le-ltb (block_count s) (block_count s) (omega arith))

pub ruleset finding = (any_none, find_more, find_stop, find_done)

-- the order: z is the answer
module _ (s : List ℕ) (loading : Bool) (x p : ℕ) where
  pub choose_bad : store_ok s ≡ false → Err BadStore ≡ load_choice loading s x p
  unfolding load_choice unless
  choose_bad h = rw h

  module _ (h : store_ok s ≡ true) where
    pub choose_platform : 7 < p → Err BadProcessors ≡ load_choice loading s x p
    unfolding load_choice unless
    choose_platform l = rw (h, lt-leb p 7 l)

    pub choose_off : p ≤ 7 → loading ≡ false → Nothing ≡ load_choice loading s x p
    unfolding load_choice unless
    choose_off l k = rw (h, le-leb p 7 l, k)

    pub choose_on : (z : LoadChoice) → p ≤ 7 → loading ≡ true → z ≡ found s x p → z ≡ load_choice loading s x p
    unfolding load_choice unless
    choose_on z l k q = rw (h, le-leb p 7 l, k) q

module _ (s : List ℕ) (ok : store_ok s ≡ true) (x p : ℕ) (l : p ≤ 7) where
  pub choice_one : (b : ℕ) → b < block_count s → first s b ≡ true → covers (from_block s b) x p ≡ true → load_choice true s x p ≡ Chosen b (revision (from_block s b))
  unfolding load_choice found chosen_at unless
  choice_one b m f h = rw (ok, le-leb p 7 l, holder_one s ok x p b m f h, lt-ltb b (block_count s) m)

  pub choice_none : ((b : ℕ) → b < block_count s → first s b ≡ true → covers (from_block s b) x p ≡ false) → load_choice true s x p ≡ Nothing
  unfolding load_choice found chosen_at unless
  choice_none h = rw (ok, le-leb p 7 l, holder_none s ok x p h, le-ltb (block_count s) (block_count s) (omega arith))
