-- `call_reads::presence::presence` meets its contract, by the directory.
use native.Mathlib.Omega.{arith}
use mathlib.Core.Path.{refl}
use borrow.Author.Rules.{rules}
use Rattle.store_directory.proofs.StoreLaws.{stored_good, stored_bad}
use Rattle.store_directory.proofs.ValidLaws.{blocks_few}
use Rattle.call_reads.specs.PresenceLaws.{presence_yes, presence_no}
use Rattle.call_reads.proofs.presence.presence.Goals as goal

pub overflow_cast-result : goal.overflow_cast-result
overflow_cast-result c = omega (arith, blocks_few _ (stored_good _ _ c.read_store.ensures _ c.in-Some.is))

pub returns-in-Some : goal.returns-in-Some
returns-in-Some c = presence_yes _ _ (stored_good _ _ c.read_store.ensures _ c.in-Some.is) refl

pub returns-in-None : goal.returns-in-None
returns-in-None c = presence_no _ _ (stored_bad _ _ c.read_store.ensures c.in-None.is) (search rules)
