use native.Mathlib.Nat.{mul_comm}
use native.Mathlib.Omega.{arith}
use Rattle.planes.proofs.Crossing.{start, room, turn, end}
use Rattle.planes.proofs.cross.Goals as goal

pub loop-j-init : goal.loop-j-init
loop-j-init c = start _ _ _ _

pub overflow_mul-j : goal.overflow_mul-j
overflow_mul-j c =
    let a = c.args in
    omega (arith, room c.loop-j.j a.m a.n (omega arith), c.loop-j.invariant.long)

pub gather-requires : goal.gather-requires
gather-requires c =
    let a = c.args in
    let t = mul_comm a.m a.n in
    let r = room c.loop-j.j a.m a.n (omega arith) in
    (omega arith, omega arith, omega (arith, c.loop-j.invariant.long))

pub loop-j-preserved : goal.loop-j-preserved
loop-j-preserved c =
    turn _ _ _ _ _ _ _
    c.requires.1
    (omega (arith, c.loop-j-test.true))
    c.loop-j.invariant
    c.gather.ensures

pub returns : goal.returns
returns c = end _ _ _ _ _ _ c.requires.1 (omega (arith, c.loop-j-test.false)) c.loop-j.invariant
