-- That a front was written.
use Rattle.std.proofs.Common.{◌≡◌, ℕ, List, length, arith, sym, ap, subst, ◌∙◌, Result, Ok, Err}
use Rattle.std.specs.Prelude.{IsOk}
use Rattle.std.proofs.lemmas.Bool.{false≢true}
use Rattle.std.proofs.lemmas.List.{take_all}
use Rattle.uf_car.specs.Exporting.{WritesAll, WritesSome}
use Rattle.uf_edge.specs.Streams.{AppendsPrefix, Told as SinkTold, after}
use Rattle.uf_fileread.proofs.Sending.{prefix-none}
use Rattle.uf_fileread.specs.Ranges.{SendsAtMost}
use Rattle.uf_fileread.specs.declared.fault.RangeFault.{RangeFault}
use Rattle.uf_light.specs.declared.fault.LightFault.{LightFault}
use Rattle.uf_light.specs.declared.fault.LightFault.TheVariants as fault
use Rattle.uf_light.specs.Light.{proof_of, said_bytes}
use Rattle.uf_light.specs.Sending.{SendsAbsent}
use Rattle.uf_light.specs.Writing.{WritesCar}

-- all of a text is a front of it
pub front-whole : (text : List ℕ) (n : ℕ) (out out_now : SinkTold) → WritesAll text n out out_now → AppendsPrefix text out out_now
front-whole text n out out_now h = record { count = length text; fits = omega arith; appended = h.written ∙ ap (after out) (sym (take_all (length text) text (omega arith))) }

-- a CAR, or a front of it
front-car : (text : List ℕ) (r : Result ℕ LightFault) (out out_now : SinkTold) → WritesCar text r out out_now → AppendsPrefix text out out_now
front-car text (Ok n) out out_now h = front-whole text n out out_now h
front-car text (Err fault.Sink) out out_now h = h
front-car text (Err (fault.Store f)) out out_now h = h.1
front-car text (Err (fault.NotFound k)) out out_now h = absurd h
front-car text (Err (fault.NotADirectory k)) out out_now h = absurd h
front-car text (Err fault.IsADirectory) out out_now h = absurd h
front-car text (Err fault.Exists) out out_now h = absurd h
front-car text (Err (fault.OtherRoot c)) out out_now h = absurd h
front-car text (Err (fault.Car f)) out out_now h = absurd h

pub front-proof : (said : Result (List ℕ) LightFault) (text : List ℕ) (r : Result ℕ LightFault) (out out_now : SinkTold) → IsOk said → WritesCar text r out out_now → AppendsPrefix (proof_of said text) out out_now
front-proof (Ok bytes) text r out out_now some h = front-car text r out out_now h
front-proof (Err f) text r out out_now some h = absurd (false≢true some)

-- what is said that there is
pub front-said : (said : Result (List ℕ) LightFault) (bytes : List ℕ) (out out_now : SinkTold) → said ≡ Ok bytes → AppendsPrefix bytes out out_now → AppendsPrefix (said_bytes said) out out_now
front-said said bytes out out_now is h = subst (λ (s : Result (List ℕ) LightFault). AppendsPrefix (said_bytes s) out out_now) (sym is) h

-- the line that nothing is at a path
pub front-absent : (text : List ℕ) (r : Result ℕ LightFault) (out out_now : SinkTold) → SendsAbsent text r out out_now → AppendsPrefix text out out_now
front-absent text (Ok n) out out_now h = front-whole text n out out_now h
front-absent text (Err fault.Sink) out out_now h = h
front-absent text (Err (fault.Store f)) out out_now h = subst (AppendsPrefix text out) (sym h.1) (prefix-none text out)
front-absent text (Err (fault.NotFound k)) out out_now h = subst (AppendsPrefix text out) (sym h.1) (prefix-none text out)
front-absent text (Err (fault.NotADirectory k)) out out_now h = subst (AppendsPrefix text out) (sym h.1) (prefix-none text out)
front-absent text (Err fault.IsADirectory) out out_now h = subst (AppendsPrefix text out) (sym h.1) (prefix-none text out)
front-absent text (Err fault.Exists) out out_now h = subst (AppendsPrefix text out) (sym h.1) (prefix-none text out)
front-absent text (Err (fault.OtherRoot c)) out out_now h = subst (AppendsPrefix text out) (sym h.1) (prefix-none text out)
front-absent text (Err (fault.Car f)) out out_now h = subst (AppendsPrefix text out) (sym h.1) (prefix-none text out)

-- some bytes of a range were
pub some-range : (most : ℕ) (r : Result ℕ RangeFault) (out out_now : SinkTold) → SendsAtMost most out out_now r → WritesSome out out_now
some-range most (Ok n) out out_now h = (h.1.bytes, h.1.appended)
some-range most (Err f) out out_now h = (h.appends.bytes, h.appends.appended)
