pub mod Flaky
