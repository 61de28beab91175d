-- What a command leaves is what its kind of command leaves.
use Rattle.std.proofs.Common.{inl}
use Rattle.lie_app.proofs.Outcomes.{no_link_on_file, no_link_on_desk}
use Rattle.lie_app.proofs.Samples.{sample_cause, sample_reads_nothing, sample_keeps_nothing, sample_links_nothing}
use Rattle.lie_app.proofs.top.obey.Goals as goal

pub returns-in-OnFile-clause-out : goal.returns-in-OnFile-clause-out
returns-in-OnFile-clause-out g c = rw c.in-OnFile.is c.on_file.ensures.out

pub returns-in-OnDesk-clause-out : goal.returns-in-OnDesk-clause-out
returns-in-OnDesk-clause-out g c = rw c.in-OnDesk.is c.on_desk.ensures.out

pub returns-in-Sample-clause-cause : goal.returns-in-Sample-clause-cause
returns-in-Sample-clause-cause g c =
    rw c.in-Sample.is (sample_cause g.O.Sink.taken g.O.Sink.fault_count g.O.Sink.starved_count c.args.out.now c.sample.new.out
    c.in-Sample.last c.in-Sample.budget c.sample.result c.sample.ensures.out)

pub returns-in-Sample-clause-read_fault : goal.returns-in-Sample-clause-read_fault
returns-in-Sample-clause-read_fault g c = λ e.
    absurd (sample_reads_nothing g.O.Sink.taken g.O.Sink.fault_count g.O.Sink.starved_count c.args.out.now c.sample.new.out
    c.in-Sample.last c.in-Sample.budget c.sample.result c.sample.ensures.out e)

pub returns-in-Sample-clause-keeper_fault : goal.returns-in-Sample-clause-keeper_fault
returns-in-Sample-clause-keeper_fault g c = λ e.
    absurd (sample_keeps_nothing g.O.Sink.taken g.O.Sink.fault_count g.O.Sink.starved_count c.args.out.now c.sample.new.out
    c.in-Sample.last c.in-Sample.budget c.sample.result c.sample.ensures.out e)

pub returns-in-Sample-clause-due : goal.returns-in-Sample-clause-due
returns-in-Sample-clause-due g c = rw c.in-Sample.is (λ due d. inl (c.sample.ensures.due due d))

pub returns-in-Sample-clause-out : goal.returns-in-Sample-clause-out
returns-in-Sample-clause-out g c = rw c.in-Sample.is c.sample.ensures.out

pub returns-in-OnFile-clause-link_fault : goal.returns-in-OnFile-clause-link_fault
returns-in-OnFile-clause-link_fault g c = λ e. absurd (no_link_on_file _ _ _ c.on_file.result c.on_file.ensures.cause e)

pub returns-in-OnDesk-clause-link_fault : goal.returns-in-OnDesk-clause-link_fault
returns-in-OnDesk-clause-link_fault g c = λ e. absurd (no_link_on_desk _ c.on_desk.result c.on_desk.ensures.cause e)

pub returns-in-Sample-clause-link_fault : goal.returns-in-Sample-clause-link_fault
returns-in-Sample-clause-link_fault g c = λ e.
    absurd (sample_links_nothing g.O.Sink.taken g.O.Sink.fault_count g.O.Sink.starved_count c.args.out.now c.sample.new.out
    c.in-Sample.last c.in-Sample.budget c.sample.result c.sample.ensures.out e)

pub returns-in-OnLink-clause-link : goal.returns-in-OnLink-clause-link
returns-in-OnLink-clause-link g c = rw c.in-OnLink.is c.on_link.ensures.link

pub returns-in-OnLink-clause-out : goal.returns-in-OnLink-clause-out
returns-in-OnLink-clause-out g c = rw c.in-OnLink.is c.on_link.ensures.out
