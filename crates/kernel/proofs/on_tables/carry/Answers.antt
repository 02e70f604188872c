-- `carry` is carried_as on the tables: each arm is the row of its kind, and what an op did to a table is what the row says
-- (Ways, where it goes by a test). Assumes nothing.
use mathlib.Core.Path.{refl}
use lib.Dec.{eqb, ltb}
use Rattle.rules.specs.declared.Kind.TheVariants.{NoKind, Creating, Declaring, Starting, Delaying, Waking, Advancing, Opening, Entering, Ending}
use Rattle.kernel.specs.declared.Kernel.{Kernel}
use Rattle.kernel.specs.Lent.{tables}
use Rattle.kernel.specs.Public.{to_rules}
use Rattle.kernel.specs.Step.{carried_as, created_of, declared_of, begun_of, due_of, wake_of, advanced_of, held_of}
use Rattle.kernel.proofs.Ways.{as_kind, delays, wakes, enters, ending}
use Rattle.kernel.proofs.on_tables.carry.Goals as goal

pub returns-in-NoKind : goal.returns-in-NoKind
unfolding carried_as
returns-in-NoKind c =
    let a = c.args in
    let k : Kernel =
    tables a.base.now a.ready.now a.delayed.now a.held.now a.way.now a.until.now a.ceiling.now a.waiter.now
    a.clock.now a.started.now in
    as_kind NoKind a.k k (to_rules a.c) c.in-NoKind.is _ _ (refl, refl)

pub returns-in-Creating : goal.returns-in-Creating
unfolding carried_as created_of
returns-in-Creating c =
    let a = c.args in
    let k : Kernel =
    tables a.base.now a.ready.now a.delayed.now a.held.now a.way.now a.until.now a.ceiling.now a.waiter.now
    a.clock.now a.started.now in
    let e = c.create.ensures in
    rw (e.0, e.1, e.2) (as_kind Creating a.k k (to_rules a.c) c.in-Creating.is _ _ (refl, refl))

pub returns-in-Declaring : goal.returns-in-Declaring
unfolding carried_as declared_of
returns-in-Declaring c =
    let a = c.args in
    let k : Kernel =
    tables a.base.now a.ready.now a.delayed.now a.held.now a.way.now a.until.now a.ceiling.now a.waiter.now
    a.clock.now a.started.now in
    let e = c.declare.ensures in
    rw (e.0, e.1) (as_kind Declaring a.k k (to_rules a.c) c.in-Declaring.is _ _ (refl, refl))

pub returns-in-Starting : goal.returns-in-Starting
unfolding carried_as begun_of
returns-in-Starting c =
    let a = c.args in
    let k : Kernel =
    tables a.base.now a.ready.now a.delayed.now a.held.now a.way.now a.until.now a.ceiling.now a.waiter.now
    a.clock.now a.started.now in
    let e = c.begin.ensures in
    rw (e.0, e.1) (as_kind Starting a.k k (to_rules a.c) c.in-Starting.is _ _ (refl, refl))

pub returns-in-Delaying : goal.returns-in-Delaying
unfolding carried_as
returns-in-Delaying c =
    let a = c.args in
    let k : Kernel =
    tables a.base.now a.ready.now a.delayed.now a.held.now a.way.now a.until.now a.ceiling.now a.waiter.now
    a.clock.now a.started.now in
    let e = c.delay.ensures in
    rw (e.0, e.1, e.2, e.3) (as_kind Delaying a.k k (to_rules a.c) c.in-Delaying.is _ _ (delays k a.c.value (ltb k.clock a.c.value)))

pub returns-in-Waking : goal.returns-in-Waking
unfolding carried_as wake_of
returns-in-Waking c =
    let a = c.args in
    let k : Kernel =
    tables a.base.now a.ready.now a.delayed.now a.held.now a.way.now a.until.now a.ceiling.now a.waiter.now
    a.clock.now a.started.now in
    let e = c.wake.ensures in
    rw (e.0, e.1, e.2, e.3) (as_kind Waking a.k k (to_rules a.c) c.in-Waking.is _ _ (wakes k (due_of k) (eqb (due_of k) 0) refl))

pub returns-in-Advancing : goal.returns-in-Advancing
unfolding carried_as advanced_of
returns-in-Advancing c =
    let a = c.args in
    let k : Kernel =
    tables a.base.now a.ready.now a.delayed.now a.held.now a.way.now a.until.now a.ceiling.now a.waiter.now
    a.clock.now a.started.now in
    let e = c.advance.ensures in
    rw (e.0, e.1) (as_kind Advancing a.k k (to_rules a.c) c.in-Advancing.is _ _ (refl, refl))

pub returns-in-Opening : goal.returns-in-Opening
unfolding carried_as held_of
returns-in-Opening c =
    let a = c.args in
    let k : Kernel =
    tables a.base.now a.ready.now a.delayed.now a.held.now a.way.now a.until.now a.ceiling.now a.waiter.now
    a.clock.now a.started.now in
    let e = c.hold.ensures in
    rw (e.0, e.1, e.2) (as_kind Opening a.k k (to_rules a.c) c.in-Opening.is _ _ (refl, refl))

pub returns-in-Entering : goal.returns-in-Entering
unfolding carried_as
returns-in-Entering c =
    let a = c.args in
    let k : Kernel =
    tables a.base.now a.ready.now a.delayed.now a.held.now a.way.now a.until.now a.ceiling.now a.waiter.now
    a.clock.now a.started.now in
    let e = c.enter.ensures in
    rw (e.0, e.1, e.2, e.3, e.4) (as_kind Entering a.k k (to_rules a.c) c.in-Entering.is _ _ (enters k a.c.a (eqb a.c.b 1)))

pub returns-in-Ending : goal.returns-in-Ending
unfolding carried_as
returns-in-Ending c =
    let a = c.args in
    let k : Kernel =
    tables a.base.now a.ready.now a.delayed.now a.held.now a.way.now a.until.now a.ceiling.now a.waiter.now
    a.clock.now a.started.now in
    let e = c.end.ensures in
    rw (e.0, e.1, e.2, e.3, e.4) (as_kind (Ending _) a.k k (to_rules a.c) c.in-Ending.is _ _ (ending k a.c.a _))
