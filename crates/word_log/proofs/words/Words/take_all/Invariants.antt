use Rattle.std.proofs.Common.{◌≡◌, ◌-◌, [], List}
use Rattle.port_entries.specs.Entry.{Entry}
use Rattle.word_log.specs.Known.{half_in}
use Rattle.word_log.specs.Desks.{ReadsBy, IsDesk, Takes}
use Rattle.word_log.proofs.words.Words.take_all.Given as goal

abbrev pub invariant-taking : goal.invariant-taking
invariant-taking l = record {
  table : l.seat.table_id ≡ l.fn.seat.table_id;
  no_slot : l.seat.me.1 ≡ [];
  takes : Takes l.side l.fn.seat.me.0 l.seat.me.0;
  desk : IsDesk l.side l.self.region (half_in l.side l.seat.me.0) l.desk;
  reads : (clears : List Entry) → ReadsBy l.side clears (half_in l.side l.fn.seat.me.0) l.fn.desk → ReadsBy l.side clears (half_in l.side l.seat.me.0) l.desk;
  written : l.desk.written ≡ l.fn.desk.written;
}

abbrev pub decreases-taking : goal.decreases-taking
decreases-taking l = l.many - l.desk.heard
