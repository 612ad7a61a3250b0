-- Scaffolding: how the code keeps the ends of a ring, over the two ends that the crate `rtrb` has. Read Rings.antt for what
-- callers see.
use Rattle.std.specs.Prelude.{ℕ, ◌-◌, ◌≤◌, List, take, drop, length}
use Rattle.rtrb.specs.Ring.{sent, known_free, producer_capacity, received, known_items}
use Rattle.dt_ring.specs.Rings.{RingInView, RingOutView}
use Rattle.dt_ring.specs.declared.ends.RingIn.TheInside.{Inside as InsideIn}
use Rattle.dt_ring.specs.declared.ends.RingOut.TheInside.{Inside as InsideOut}

-- the last n of these
abbrev pub last_of : {A : Type 0} → ℕ → List A → List A
last_of count xs = drop (length xs - count) xs

-- all but the last n of these
abbrev pub all_but_last : {A : Type 0} → ℕ → List A → List A
all_but_last count xs = take (length xs - count) xs

-- what is seen of an outlet that is kept so: of all that was ever put, the last `fresh` were put since
abbrev pub out_view : InsideOut → RingOutView
out_view o = record {
  ring = record { counts = o.producer.end.words; places = o.producer.end.slots; names = o.producer.end.names; memory = o.producer.end.heap };
  before = all_but_last o.fresh (sent o.producer);
  put = last_of o.fresh (sent o.producer);
  places = producer_capacity o.producer;
  free = o.room - o.fresh;
}

-- what every outlet keeps: the producer knows each place that is left of `room` to be free
pub record IsSoundOut (o : InsideOut) : Type 0 where
  pub put : o.fresh ≤ length (sent o.producer)
  pub room : o.fresh ≤ o.room
  pub free : o.room - o.fresh ≤ known_free o.producer

-- what is seen of an inlet that is kept so
abbrev pub in_view : InsideIn → RingInView
in_view i = record {
  ring = record { counts = i.consumer.end.words; places = i.consumer.end.slots; names = i.consumer.end.names; memory = i.consumer.end.heap };
  taken = received i.consumer;
  waits = known_items i.consumer;
}
