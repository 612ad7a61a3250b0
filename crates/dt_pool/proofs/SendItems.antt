-- What goes to a worker and what it gives back may move to another thread.
use denote.RattleType.{RattleType}
use denote.Param.Send.{IsSend, IsSync, recorded_send, struct_send, view_send, sendable}
use denote.Struct.Declared.{shape}
use Rattle.std.proofs.Crossing.{Arc-send, crosses}
use Rattle.std.specs.contracts.option.Option as Option
use Rattle.std.specs.contracts.sync.Arc as Arc
use Rattle.std.specs.contracts.alloc.Global as Heap
use Rattle.std.specs.contracts.impls.GlobalAllocator.TheImpl.{ghosts}
use Rattle.rtrb.specs.contracts.AnyItems as AnyItems
use Rattle.rtrb.specs.contracts.AnyItemsProtocol.TheImpl as items
use Rattle.rtrb.specs.contracts.consumer.Consumer as consumer
use Rattle.rtrb.specs.contracts.producer.Producer as producer
use Rattle.rtrb.proofs.consumer.Consumer.TheSendSync as consumer_send
use Rattle.rtrb.proofs.producer.Producer.TheSendSync as producer_send
use Rattle.dt_pool.specs.declared.lending.Lending as Lending
use Rattle.dt_pool.specs.contracts.helper.Bells as Bells
use Rattle.dt_pool.specs.contracts.helper.Server as Server
use Rattle.dt_pool.specs.contracts.lent.Lent as Lent
use Rattle.dt_pool.specs.contracts.lent.Lent.TheInside as lent
use Rattle.dt_pool.specs.contracts.lent.Worked as Worked
use Rattle.dt_pool.specs.contracts.lent.Worked.TheInside as worked

-- the end of a ring that gives items
inlet_send : (R : RattleType) → IsSend R → IsSend (consumer.the_field R Heap.the_row AnyItems.the_row ghosts (items.ghosts R)).row
inlet_send R s = search (sendable, crosses, consumer_send.the_field_send) depth 20 parts 0

-- each has an item, the inlet that remembers what it was, a number, and a mark without bytes for its types
pub lent_inside_send : (X N : RattleType) (g : Lending.Ghosts N.Denot X.Denot) → IsSend X → IsSend N → IsSend (lent.the_row X N g)
lent_inside_send X N g x n = recorded_send (lent.the_field X N g).row _ _ (lent.the_type X N g).to_one
    (struct_send (shape (lent.the_type X N g)) (x, (inlet_send _ (search sendable depth 20), (search sendable depth 20, (search (sendable, n) depth 20, tt)))))

pub worked_inside_send : (X N : RattleType) (g : Lending.Ghosts N.Denot X.Denot) → IsSend X → IsSend N → IsSend (worked.the_row X N g)
worked_inside_send X N g x n = recorded_send (worked.the_field X N g).row _ _ (worked.the_type X N g).to_one
    (struct_send (shape (worked.the_type X N g)) (x, (inlet_send _ (search sendable depth 20), (search sendable depth 20, (search (sendable, n) depth 20, tt)))))

pub lent_send : (X N : RattleType) (g : Lending.Ghosts N.Denot X.Denot) → IsSend X → IsSend N → IsSend (Lent.the_row X N g)
lent_send X N g x n = view_send _ _ _ _ _ (lent_inside_send X N g x n)

pub worked_send : (X N : RattleType) (g : Lending.Ghosts N.Denot X.Denot) → IsSend X → IsSend N → IsSend (Worked.the_row X N g)
worked_send X N g x n = view_send _ _ _ _ _ (worked_inside_send X N g x n)

option_send : (R : RattleType) → IsSend R → IsSend (Option.the_row R)
option_send R s = search sendable depth 12

outlet_send : (R : RattleType) → IsSend R → IsSend (producer.the_field R Heap.the_row AnyItems.the_row ghosts (items.ghosts R)).row
outlet_send R s = search (sendable, crosses, producer_send.the_field_send) depth 20 parts 0

bells_send : IsSend Bells.the_row
bells_send = search (sendable, crosses) depth 20

bells_sync : IsSync Bells.the_row
bells_sync = search (sendable, crosses) depth 20

shared_bells_send : IsSend (Arc.the_row Bells.the_row Heap.the_row ghosts)
shared_bells_send = Arc-send _ bells_send bells_sync

-- a helper's own side may go to its thread
pub server_send : (X N : RattleType) (g : Lending.Ghosts N.Denot X.Denot) → IsSend X → IsSend N → IsSend (Server.the_row X N g)
server_send X N g x n = recorded_send (Server.the_field X N g).row _ _ (Server.the_type X N g).to_one
    (struct_send (shape (Server.the_type X N g)) (inlet_send _ (option_send _ (lent_send X N g x n)), (outlet_send _ (worked_send X N g x n), (shared_bells_send, tt))))
