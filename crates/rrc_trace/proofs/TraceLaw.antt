-- SPDX-License-Identifier: MIT
-- Every text is the text of one list of lines, or it has one first fault, and never both: what is read of it is the one or the other.
use Rattle.std.proofs.Common.{◌≡◌, ℕ, ◌⊎◌, List, Result, Ok, Err, refl, inl, inr}
use Rattle.rrc_trace.specs.declared.line.Line.{Line}
use Rattle.rrc_text.specs.declared.fault.ReplayFault.{ReplayFault}
use Rattle.rrc_trace.specs.Trace.{TraceOf, IsFirstFault, OneTraceOrFault}
use Rattle.rrc_trace.proofs.TraceLemmas.{trace_of, trace_of-says, trace_of-fault, trace-read, fault-read}

either_of : (octets : List ℕ) (said : Result (List Line) ReplayFault) → trace_of octets ≡ said
    → ((lines : List Line) × TraceOf octets lines) ⊎ ((fault : ReplayFault) × IsFirstFault octets fault)
either_of octets (Ok lines) is = inl (lines, trace_of-says octets lines is)
either_of octets (Err fault) is = inr (fault, trace_of-fault octets fault is)

same_lines : (said : Result (List Line) ReplayFault) (lines others : List Line) → said ≡ Ok lines → said ≡ Ok others → lines ≡ others
same_lines said lines others is also = cc

same_fault : (said : Result (List Line) ReplayFault) (fault other : ReplayFault) → said ≡ Err fault → said ≡ Err other → fault ≡ other
same_fault said fault other is also = cc

never : (said : Result (List Line) ReplayFault) (lines : List Line) (fault : ReplayFault) → said ≡ Ok lines → said ≡ Err fault → ⊥
never said lines fault is also = absurd cc

pub trace_or_fault : OneTraceOrFault
trace_or_fault octets = record {
  either = either_of octets (trace_of octets) refl;
  one_trace = λ lines others trace also. same_lines (trace_of octets) lines others (trace-read octets lines trace) (trace-read octets others also);
  one_fault = λ fault other is also. same_fault (trace_of octets) fault other (fault-read octets fault is) (fault-read octets other also);
  not_both = λ lines fault trace is. never (trace_of octets) lines fault (trace-read octets lines trace) (fault-read octets fault is);
}
