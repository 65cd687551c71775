pub mod StepIsServe
