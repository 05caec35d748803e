use Rattle.std.proofs.Common.{◌≡◌, ◌≤◌, ◌^◌, unsigned_abs}
use Rattle.sdsp_voice.specs.Sample.{turns}
use Rattle.sdsp_voice.proofs.voices.Voices.play.Given as goal

abbrev pub invariant-voices : goal.invariant-voices
invariant-voices l = record {
  voices : l.self ≡ record l.initial.self { voices = (turns l.ram l.table l.s l.initial.self l.v).voices };
  sums : l.sums ≡ (turns l.ram l.table l.s l.initial.self l.v).sums;
  before : l.before ≡ (turns l.ram l.table l.s l.initial.self l.v).before;
  small : unsigned_abs l.before ≤ 2 ^ 20;
}
