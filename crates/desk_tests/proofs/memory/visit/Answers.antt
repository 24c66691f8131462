use Rattle.std.proofs.Common.{◌∙◌}
use Rattle.desk_tests.proofs.OutLemmas.{asks_stay, closes_stay, out_stays}
use Rattle.desk_tests.proofs.memory.visit.Goals as goal

pub returns-in_err-bytes : goal.returns-in_err-bytes
returns-in_err-bytes g c =
    let old = g.D.Desk.told c.args.desk.now in
    let asked = g.D.Desk.told c.settings.new.self in
    out_stays old asked (asks_stay _ _ old asked c.in_err-bytes.ensures.asks) c.requires

pub returns-in_err-store : goal.returns-in_err-store
returns-in_err-store g c =
    let old = g.D.Desk.told c.args.desk.now in
    let asked = g.D.Desk.told c.settings.new.self in
    let opened = g.D.Desk.told c.store.new.self in
    out_stays old opened (asks_stay _ _ _ opened c.in_err-store.ensures.asks ∙ asks_stay _ _ old asked c.in_ok-bytes.ensures.asks) c.requires

pub returns-in_err-listen : goal.returns-in_err-listen
returns-in_err-listen g c =
    let old = g.D.Desk.told c.args.desk.now in
    let asked = g.D.Desk.told c.settings.new.self in
    let opened = g.D.Desk.told c.store.new.self in
    let closed = g.D.Desk.told c.close.new.self in
    let listening = g.D.Desk.told c.listen.new.self in
    out_stays old listening
    (asks_stay _ _ closed listening c.in_err-listen.ensures ∙ closes_stay _ opened closed c.close.ensures ∙ asks_stay _ _ _ opened c.in_ok-store.ensures.asks ∙ asks_stay _ _ old asked c.in_ok-bytes.ensures.asks) c.requires

pub returns : goal.returns
returns g c =
    let old = g.D.Desk.told c.args.desk.now in
    let asked = g.D.Desk.told c.settings.new.self in
    let opened = g.D.Desk.told c.store.new.self in
    let closed = g.D.Desk.told c.close.new.self in
    let listening = g.D.Desk.told c.listen.new.self in
    out_stays old listening
    (asks_stay _ _ closed listening c.listen.ensures ∙ closes_stay _ opened closed c.close.ensures ∙ asks_stay _ _ _ opened c.in_ok-store.ensures.asks ∙ asks_stay _ _ old asked c.in_ok-bytes.ensures.asks) c.requires
