-- Edits of a file's bytes.
pub use Rattle.uf_tree.specs.Laying.{laid, cut_to}
