use Rattle.std.proofs.Common.{◌≤◌, length, take}
use Rattle.std.specs.Io.KnownBytes.{Consumes}
use Rattle.card_input.proofs.read_card.Given as goal

-- The buffer holds, from its start, what was read.
abbrev pub invariant-loop : goal.invariant-loop
invariant-loop g l = record {
  within : l.«bytes» ≤ length l.card;
  consumed : Consumes (g.R.Read.remaining l.fn.file) (g.R.Read.remaining l.file) (take l.«bytes» l.card);
}
