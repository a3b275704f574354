use mathlib.Core.Path.{sym}
use native.Mathlib.Omega.{arith}
use lib.ListN.{length}
use Rattle.slices.proofs.Stored.{start, turn, end}
use Rattle.planes.proofs.Runs.{length-every, every_at, within}
use Rattle.planes.proofs.gather.Goals as goal

pub loop-i-init : goal.loop-i-init
loop-i-init c = start _ _ _

-- Both places fit, that of byte i of run `from` and that of byte `from` of run i, so of these two only what is stored tells them apart.
pub overflow_mul-dst : goal.overflow_mul-dst
overflow_mul-dst c =
    let a = c.args in
    let i = c.loop-i.i in
    let s = length a.src.now in
    omega (arith, within i a.n a.step a.from s (omega arith) (omega arith) (omega arith), within a.from a.step a.n i s (omega arith) (omega arith) (omega arith))

pub overflow_add-dst : goal.overflow_add-dst
overflow_add-dst c =
    let a = c.args in
    let i = c.loop-i.i in
    let s = length a.src.now in
    omega (arith, within i a.n a.step a.from s (omega arith) (omega arith) (omega arith), within a.from a.step a.n i s (omega arith) (omega arith) (omega arith))

pub bounds-src-i : goal.bounds-src-i
bounds-src-i c =
    let a = c.args in
    let i = c.loop-i.i in
    let s = length a.src.now in
    omega (arith, within i a.n a.step a.from s (omega arith) (omega arith) (omega arith), within a.from a.step a.n i s (omega arith) (omega arith) (omega arith))

pub loop-i-preserved : goal.loop-i-preserved
loop-i-preserved c =
    let a = c.args in
    let l = length-every a.step a.n a.from a.src.now in
    turn _ _ _ _ _ _ _ (omega arith) (omega arith) (sym (every_at _ _ _ _ _ (omega arith))) c.loop-i.invariant

pub returns : goal.returns
returns c =
    let a = c.args in
    let l = length-every a.step a.n a.from a.src.now in
    end _ _ _ _ _ (omega arith) c.loop-i.invariant
