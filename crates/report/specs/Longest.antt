-- How many bytes the longest report has, without and with its line `hold`.
use Rattle.std.specs.Prelude.{ℕ, ◌+◌}

abbrev pub longest_plain : ℕ
longest_plain = 11168

abbrev pub longest_report : ℕ
longest_report = 5 + longest_plain
