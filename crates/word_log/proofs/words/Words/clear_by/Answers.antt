use Rattle.std.proofs.Common.{List, subst}
use Rattle.port_entries.specs.Entry.{Entry}
use Rattle.port_entries.specs.Window.{IsSettled}
use Rattle.port_log.specs.Refused.{IsBehind}
use Rattle.word_log.specs.Known.{half_in}
use Rattle.word_log.specs.Desks.{Listens}
use Rattle.word_log.proofs.Calling.{clear-logs, clear-settled, clear-behind, heard-ready, cleared-ready}
use Rattle.word_log.proofs.words.Words.clear_by.Goals as goal

pub listen-requires-clause-clears : goal.listen-requires-clause-clears
listen-requires-clause-clears c = λ found. clear-logs c.args.side _ c.args.at c.args.mask found c.requires.own_clock

-- where it is refused nothing was logged
pub returns-then-is_behind-clause-listens : goal.returns-then-is_behind-clause-listens
returns-then-is_behind-clause-listens c =
    let w = c.listen.new.seat.me.0 in
    let behind = subst (IsBehind c.args.side c.args.at) c.listen.ensures.known (c.is_behind.ensures.behind.0 c.if-is_behind.true) in
    subst (λ (es : List Entry). Listens c.args.side c.args.seat.now.me.0 w es (half_in c.args.side c.args.seat.now.me.0).at)
    (clear-behind c.args.side c.args.at c.args.mask (half_in c.args.side w).other behind) c.listen.ensures.listens

pub returns-then-is_behind-clause-ready : goal.returns-then-is_behind-clause-ready
returns-then-is_behind-clause-ready c =
    let w = c.listen.new.seat.me.0 in
    let e = c.listen.ensures in
    let behind = subst (IsBehind c.args.side c.args.at) e.known (c.is_behind.ensures.behind.0 c.if-is_behind.true) in
    let l = subst (λ (es : List Entry). Listens c.args.side c.args.seat.now.me.0 w es (half_in c.args.side c.args.seat.now.me.0).at)
    (clear-behind c.args.side c.args.at c.args.mask (half_in c.args.side w).other behind) e.listens in
    heard-ready c.args.side _ _ _ c.args.desk.now _ c.requires.ready e.desk e.reads l.mine l.at e.known l.upto e.soon e.written

-- and where it isn't, the clear
pub returns-clause-listens : goal.returns-clause-listens
returns-clause-listens c =
    let w = c.listen.new.seat.me.0 in
    let settled = subst (IsSettled c.args.side c.args.at) c.listen.ensures.known c.if-is_behind.ensures.settled in
    subst (λ (es : List Entry). Listens c.args.side c.args.seat.now.me.0 w es (half_in c.args.side c.args.seat.now.me.0).at)
    (clear-settled c.args.side c.args.at c.args.mask (half_in c.args.side w).other settled) c.listen.ensures.listens

pub returns-clause-ready : goal.returns-clause-ready
returns-clause-ready c =
    let w = c.listen.new.seat.me.0 in
    let e = c.listen.ensures in
    let ok = c.in-Ok.ensures in
    let settled = subst (IsSettled c.args.side c.args.at) e.known c.if-is_behind.ensures.settled in
    let l = subst (λ (es : List Entry). Listens c.args.side c.args.seat.now.me.0 w es (half_in c.args.side c.args.seat.now.me.0).at)
    (clear-settled c.args.side c.args.at c.args.mask (half_in c.args.side w).other settled) e.listens in
    cleared-ready c.args.side c.args.self.now.region (half_in c.args.side c.args.seat.now.me.0) (half_in c.args.side w) c.args.desk.now c.listen.new.desk c.clear.new.self c.args.at c.args.mask
    c.requires.ready e.desk e.reads l.mine l.at e.known l.upto e.soon e.written ok.region_stays ok.clock_stays ok.other_stays ok.stands
