use Rattle.std.proofs.Common.{arith}
use Rattle.outside_world.proofs.BytesLemmas.{up_to_slice}
use Rattle.outside_world.proofs.sink.put_all.Goals as goal

pub loop-rest-preserved : goal.loop-rest-preserved
loop-rest-preserved g c = record {
  took = up_to_slice _ _ _ _ _ _ c.loop-rest.invariant.took c.in_ok-count.ensures.bytes;
  later = omega (arith, c.loop-rest.invariant.later, c.put.ensures.cause.later);
}
