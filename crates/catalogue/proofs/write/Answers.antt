-- A text that was given lies within the buffer.
use Rattle.report_text.specs.GivenLaws.{given_inside, given_cut}
use Rattle.catalogue.proofs.write.Goals as goal

pub slice_bounds-text-end : goal.slice_bounds-text-end
slice_bounds-text-end g c = given_inside _ _ _ _ _ c.catalogue.ensures.value c.catalogue.ensures.out_after c.in-Ok.is

pub slice_bounds-write_all-end : goal.slice_bounds-write_all-end
slice_bounds-write_all-end g c = given_cut _ _ _ _ _ c.catalogue.ensures.value c.catalogue.ensures.out_after c.in-Ok.is
