use Rattle.outside_world.proofs.StoredLemmas.{stored-where}
use Rattle.outside_world.proofs.memory_shelf.MemoryShelf.store.Goals as goal

pub returns-in-Some-clause-stored : goal.returns-in-Some-clause-stored
returns-in-Some-clause-stored c = stored-where _ _ _ _ c.index_mut.result.now _ _ (cc (c.in-Some.ensures, c.as_slice.ensures.value)) c.index_mut.ensures.value c.store.ensures.stored
