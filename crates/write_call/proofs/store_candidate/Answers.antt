-- `write_call::store_candidate` meets its contract: the marks beside the directory say which updates go.
use Rattle.write_call.proofs.AnsweredBlocks.{storing}
use Rattle.write_call.proofs.store_candidate.Goals as goal

pub emptied_blocks-blocks-requires : goal.emptied_blocks-blocks-requires
emptied_blocks-blocks-requires c = search storing

pub write_bytes-requires-clause-entries : goal.write_bytes-requires-clause-entries
write_bytes-requires-clause-entries c = search storing

pub write_bytes-requires-clause-t_in_bounds_2 : goal.write_bytes-requires-clause-t_in_bounds_2
write_bytes-requires-clause-t_in_bounds_2 c = search storing

pub returns-clause-stores : goal.returns-clause-stores
returns-clause-stores c = search storing
