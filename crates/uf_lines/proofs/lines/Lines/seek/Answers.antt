use Rattle.std.proofs.Common.{length, sym, ap, ◌∙◌, arith, length-drop}
use Rattle.uf_lines.specs.Windows.{in_window}
use Rattle.uf_lines.proofs.Lookings.{bytes_are}
use Rattle.uf_lines.proofs.Searches.{feed_at, found_at, found_none, inside_of}
use Rattle.uf_lines.proofs.lines.Lines.seek.Goals as goal

pub invariant_of-self : goal.invariant_of-self
invariant_of-self c =
    let self = c.args.self.now in
    let h = c.in-Some.ensures in
    let inside = inside_of self.used self.seen (in_window self.window) _ c.requires c.bytes-bytes.ensures c.in-Some.count h.0.high in
    let size = length-drop self.used (in_window self.window) in
    record {
      in_front = self.in_front;
      in_range = omega (arith, inside, size);
      searched = found_at self.used self.seen (in_window self.window) _ c.requires c.bytes-bytes.ensures self.searched c.in-Some.count h.0.before;
    }

pub invariant_of-self-in-None : goal.invariant_of-self-in-None
invariant_of-self-in-None c =
    let self = c.args.self.now in
    let h = c.in-None.ensures in
    let all = ap length c.bytes-bytes.ensures in
    let passed = c.requires in
    let range = self.in_range in
    record {
      in_front = self.in_front;
      in_range = omega (arith, all, passed);
      searched = found_none self.used self.seen (in_window self.window) _ c.requires c.bytes-bytes.ensures self.searched (omega (arith, all, range)) h;
    }

pub returns-in-Some-clause-stops : goal.returns-in-Some-clause-stops
returns-in-Some-clause-stops c =
    let self = c.args.self.now in
    let h = c.in-Some.ensures in
    record {
      inside = inside_of self.used self.seen (in_window self.window) _ c.requires c.bytes-bytes.ensures c.in-Some.count h.0.high;
      feed = feed_at self.used self.seen (in_window self.window) _ c.requires c.bytes-bytes.ensures c.in-Some.count h.1;
    }

pub returns-in-None-clause-stops : goal.returns-in-None-clause-stops
returns-in-None-clause-stops c = ap length c.bytes-bytes.ensures ∙ sym (ap length (bytes_are c.args.self.now c.requires))
