-- The rules of the record (16), sentence by sentence: records of one task and two sources that keep them, and such as break one alone.
use Rattle.std.specs.Prelude.{true, ◌≡◌}
use Rattle.model.specs.declared.Machine.{Machine}
use Rattle.model.specs.Machine.{idle, set_awake, set_used, set_waiting, set_dropped, set_age, set_fastest}
use Rattle.model.specs.figures.Latch.{scan, part_done, refused_as}

abbrev asleep : Machine
asleep = idle (scan 3)

pub record RuleFigures : Type 0 where
  -- "used is below e"
  pub used_below : refused_as (set_used 1 2 part_done) ≡ 0
  pub used_at-run : refused_as (set_used 1 3 part_done) ≡ 16
  -- "a sleeping task has used 0"
  pub sleeper : refused_as (set_used 1 1 asleep) ≡ 16
  -- "a waiting link's task is awake"
  pub waits_awake : refused_as (set_awake 1 true (set_waiting 1 true asleep)) ≡ 0
  pub waits_asleep : refused_as (set_waiting 1 true asleep) ≡ 16
  -- "nothing is set for absent nodes or links": tasks, sources, links
  pub absent_awake : refused_as (set_awake 2 true asleep) ≡ 16
  pub absent_used : refused_as (set_used 2 1 asleep) ≡ 16
  pub absent_aged : refused_as (set_age 2 1 asleep) ≡ 16
  pub absent_kept : refused_as (set_fastest 2 200 asleep) ≡ 16
  pub absent_waits : refused_as (set_waiting 2 true part_done) ≡ 16
  pub dropped : refused_as (set_dropped 1 true asleep) ≡ 0
  pub absent_dropped : refused_as (set_dropped 2 true asleep) ≡ 16
  pub last_absent_dropped : refused_as (set_dropped 255 true asleep) ≡ 16
