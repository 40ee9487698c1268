-- Parts of printed lines: numbers with spaces before them, and the end of a line.
pub use Rattle.decimals.specs.Text.{spaced_numbers, line_end}
