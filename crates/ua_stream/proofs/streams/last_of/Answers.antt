use Rattle.std.proofs.Common.{rules}
use Rattle.std.specs.Prelude.{Some}
use Rattle.ua_stream.specs.Index.{HasLast}
use Rattle.ua_stream.proofs.IndexLemmas.{last_at, last_way, no_way, none_at, read_at}
use Rattle.ua_stream.proofs.streams.last_of.Goals as goal

found : (c : goal.In-Some) → HasLast c.args.connections.now c.args.from c.args.to (Some c.in-Some.number)
found c = last_at c.args.connections.now c.args.index.now c.args.from c.args.to c.get.result c.in-Some.number c.requires c.get.ensures c.in-Some.is

pub offset_bounds-connections-number : goal.offset_bounds-connections-number
offset_bounds-connections-number c = let p = (found c).1.there in search (rules, p)

pub bounds-connections-number : goal.bounds-connections-number
bounds-connections-number c = (found c).1.there

pub returns-in-Some-way_of-clause-found : goal.returns-in-Some-way_of-clause-found
returns-in-Some-way_of-clause-found c =
    let p = last_at c.args.connections.now c.args.index.now c.args.from c.args.to c.get.result c.in-Some.number c.requires c.get.ensures c.in-Some.is in
    last_way c.args.connections.now c.index-connections-number.result c.args.from c.args.to c.in-Some.number c.in-Some-way_of.way p
    (read_at c.args.connections.now c.index-connections-number.result c.in-Some.number p.1.there c.index-connections-number.is) c.in-Some-way_of.ensures.found

pub returns-in-None-way_of-clause-none : goal.returns-in-None-way_of-clause-none
returns-in-None-way_of-clause-none c =
    let p = last_at c.args.connections.now c.args.index.now c.args.from c.args.to c.get.result c.in-Some.number c.requires c.get.ensures c.in-Some.is in
    absurd (no_way c.args.connections.now c.index-connections-number.result c.args.from c.args.to c.in-Some.number p
    (read_at c.args.connections.now c.index-connections-number.result c.in-Some.number p.1.there c.index-connections-number.is) c.in-None-way_of.ensures.none)

pub returns-in-None-clause-none : goal.returns-in-None-clause-none
returns-in-None-clause-none c = none_at c.args.connections.now c.args.index.now c.args.from c.args.to c.get.result c.requires c.get.ensures c.in-None.is
