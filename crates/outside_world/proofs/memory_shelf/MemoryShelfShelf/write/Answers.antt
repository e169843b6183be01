use Rattle.outside_world.proofs.StoredLemmas.{stores_part}
use Rattle.outside_world.proofs.memory_shelf.MemoryShelfShelf.write.Goals as goal

pub returns-then-contains-clause-part : goal.returns-then-contains-clause-part
returns-then-contains-clause-part c = rw (← c.as_bytes.ensures.value) (stores_part _ _ _ _ _ _ c.store.ensures.stored c.store.ensures.same)
