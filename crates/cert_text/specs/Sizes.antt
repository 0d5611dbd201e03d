-- How long the lists of a part of a certificate are.
use Rattle.std.specs.Prelude.{ℕ, ◌≤◌, length}
use Rattle.cert_text.specs.declared.reader.Front.{Front}
use Rattle.cert_text.specs.declared.reader.Back.{Back}

pub record HasFrontAtMost (most : ℕ) (front : Front) : Type 0 where
  pub classes : length front.classes ≤ most
  pub nodes : length front.nodes ≤ most
  pub items : length front.items ≤ most

pub record HasBackAtMost (most : ℕ) (back : Back) : Type 0 where
  pub starts : length back.starts ≤ most
  pub ends : length back.ends ≤ most
