-- The part as a slice is filled as a whole.
use Rattle.std.proofs.Common.{◌≡◌, ◌∙◌, ap, arith, ◌+◌, ◌-◌, length, take, drop, replicate, length-drop, length-take-le}
use Rattle.test_vectors.specs.EditLaws.{fill_part, fill_set}
use Rattle.test_vectors.proofs.edits.set.Goals as goal

pub returns-in-Some-clause-sets : goal.returns-in-Some-clause-sets
returns-in-Some-clause-sets c =
    let at = c.args.e.offset in
    let n = c.args.e.count in
    let d = c.args.buf.now in
    let k : n ≡ at + n - at = omega arith in
    let long : length (take (at + n - at) (drop at d)) ≡ n = omega (arith, length-take-le (at + n - at) (drop at d) (omega (arith, c.if-at-n.false, length-drop at d))) in
    let all : c.fill.new.self ≡ replicate n c.in-Some.byte = c.fill.ensures.after (λ y h. h) ∙ ap (λ m. replicate m c.in-Some.byte) long in
    (fill_set c.args.e c.args.bytes.now d _ c.if-at-n.false c.in-Some.byte c.in-Some.is (fill_part d at n c.in-Some.byte _ _ all k)).1
