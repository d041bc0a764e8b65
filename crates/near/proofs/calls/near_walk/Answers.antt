-- Each kind of call is decided by its own function.
use Rattle.near.proofs.calls.near_walk.Goals as goal

pub returns-in-One : goal.returns-in-One
returns-in-One c = rw c.in-One.is c.near_one.ensures

pub returns-in-Two : goal.returns-in-Two
returns-in-Two c = rw c.in-Two.is c.near_two.ensures
